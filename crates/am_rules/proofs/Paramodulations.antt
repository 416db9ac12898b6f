-- What paramodulation by unification gives is right.
use Rattle.std.proofs.Common.{◌≡◌, inl, inr, ℕ, Bool, true, false, refl, List, Option, Some, None, if◌then◌else◌}
use Rattle.std.specs.List.{AllByRecursion}
use Rattle.am_term.specs.declared.id.SortId.{SortId}
use Rattle.am_term.specs.declared.id.SymId.{SymId}
use Rattle.am_term.specs.declared.signature.Signature.{Signature}
use Rattle.am_term.specs.declared.term.Term.{Term}
use Rattle.am_term.specs.declared.term.Term.TheVariants.{App}
use Rattle.am_term.specs.declared.term.Atom.{Atom}
use Rattle.am_clause.specs.declared.clause.Clause.{Clause}
use Rattle.am_clause.specs.declared.row.Made.{Made}
use Rattle.am_clause.specs.declared.row.Side.{Side}
use Rattle.am_clause.specs.Variables.{occurrences, variables}
use Rattle.am_clause.specs.Numbered.{IsNumbered}
use Rattle.am_rules.specs.Made.{IsMadeIfAny}
use Rattle.am_rules.specs.Binding.{Binds, OfTwo, of_two}
use Rattle.am_rules.specs.Resolution.{nth_atom, AnswersMeet}
use Rattle.am_rules.specs.Paramodulation.{TermsMeet, side_in, part_in, ParaMeets, paramodulant, term_pairs, para_pairs, paramodulation, sorted_only, IsSortedAnswer}
use Rattle.am_rules.specs.Asked.{Pairs, answer_pairs}
use Rattle.am_rules.proofs.AskedLaws.{Told, told-as, Holding, answers-told, both-told, answers-both, both-both}
use Rattle.am_rules.proofs.Standing.{Each, each-App}
use Rattle.am_rules.proofs.Posing.{HasOne, arguments-sorted}
use Rattle.am_rules.proofs.Joining.{At}
use Rattle.am_rules.proofs.Solutions.{Good, S, T, all-terms, all-and, atom_good, answer_good, by_pairs}
use Rattle.am_rules.proofs.Paramodulants.{then-at, part-holds, side-holds, para-natural}
use Rattle.am_clause.specs.SortedClause.{is_sorted_clause}
use Rattle.am_clause.specs.Rules.{side_of}
use Rattle.am_term.specs.Parts.{place_in}

module _ (f g : Term → Term) where
  terms-told : (o u : Option Term) → Told f g (TermsMeet f g o u) (term_pairs o u)
  terms-told None u = λ h. h
  terms-told (Some t) None = λ h. h
  terms-told (Some t) (Some u) = record { there = λ h. (h, tt); back = λ h. h.0 }

terms-both : (S T : Term → Type 0) (o u : Option Term) → ((t : Term) → o ≡ Some t → S t) → ((t : Term) → u ≡ Some t → T t) → Holding S T (term_pairs o u)
terms-both S T None u h k = tt
terms-both S T (Some t) None h k = tt
terms-both S T (Some t) (Some u) h k = ((h t refl, k u refl), tt)

module _ (sig : Signature) (ins : List SortId) (c : Clause) (numbered : IsNumbered c) (sorted : is_sorted_clause sig ins c ≡ true) where
  abbrev pub G : Term → Type 0
  G t = Good sig ins c numbered sorted t

  good-down : (f : SymId) (ts : List Term) → G (App f ts) → AllByRecursion G ts
  good-down f ts h = all-and (HasOne sig ins) (λ t. Each (At (variables c)) (occurrences t)) ts (arguments-sorted sig ins f ts h.0) (all-terms (At (variables c)) ts (each-App (At (variables c)) f ts h.1))

  pub side_good : (j : ℕ) (side : Side) (t : Term) → side_in c j side ≡ Some t → G t
  side_good j side t e = let r : (a : Atom) × (nth_atom j c ≡ Some a) × (side_of side a ≡ Some t) = then-at (nth_atom j c) (side_of side) t e in
      side-holds G good-down side r.0 t r.2 (atom_good sig ins c numbered sorted j r.0 r.1)

  pub part_good : (i : ℕ) (path : List ℕ) (t : Term) → part_in c i path ≡ Some t → G t
  part_good i path t e = let r : (a : Atom) × (nth_atom i c ≡ Some a) × (place_in path a ≡ Some t) = then-at (nth_atom i c) (place_in path) t e in
      part-holds G good-down path r.0 t r.2 (atom_good sig ins c numbered sorted i r.0 r.1)

module _ (sig : Signature) (ins : List SortId) (p : Clause) (j : ℕ) (side : Side) (q : Clause) (i : ℕ) (path : List ℕ) (first : IsNumbered p) (second : IsNumbered q)
    (left_sorted : is_sorted_clause sig ins p ≡ true) (right_sorted : is_sorted_clause sig ins q ≡ true) where
  abbrev pairs : Pairs
  pairs = para_pairs p j side q i path

  told : (f g : Term → Term) → Told f g (ParaMeets p j side q i path f g) pairs
  told f g = told-as f g (TermsMeet f g (side_in p j side) (part_in q i path) × AnswersMeet f g p.answer q.answer) (ParaMeets p j side q i path f g)
      (λ h. record { terms = h.0; answers = h.1 }) (λ h. (h.terms, h.answers)) pairs
      (both-told f g (TermsMeet f g (side_in p j side) (part_in q i path)) (AnswersMeet f g p.answer q.answer) (term_pairs (side_in p j side) (part_in q i path)) (answer_pairs p.answer q.answer)
      (terms-told f g (side_in p j side) (part_in q i path)) (answers-told f g p.answer q.answer))

  abbrev LeftGood : Term → Type 0
  LeftGood t = S sig ins p q first second left_sorted right_sorted (ParaMeets p j side q i path) (paramodulant p j side q i path) (para-natural sig ins p j side q i path first second) t

  abbrev RightGood : Term → Type 0
  RightGood t = T sig ins p q first second left_sorted right_sorted (ParaMeets p j side q i path) (paramodulant p j side q i path) (para-natural sig ins p j side q i path first second) t

  holding : Holding LeftGood RightGood pairs
  holding = both-both LeftGood RightGood (term_pairs (side_in p j side) (part_in q i path)) (answer_pairs p.answer q.answer)
      (terms-both LeftGood RightGood (side_in p j side) (part_in q i path) (side_good sig ins p first left_sorted j side) (part_good sig ins q second right_sorted i path))
      (answers-both LeftGood RightGood p.answer q.answer (answer_good sig ins p first left_sorted) (answer_good sig ins q second right_sorted))

  pub paramodulation-answer : IsMadeIfAny sig ins (OfTwo (Binds sig ins p q (ParaMeets p j side q i path))) (of_two (paramodulant p j side q i path)) (paramodulation sig ins p j side q i path)
  paramodulation-answer = by_pairs sig ins p q first second left_sorted right_sorted (ParaMeets p j side q i path) (paramodulant p j side q i path) (para-natural sig ins p j side q i path first second)
      pairs told holding

-- what is made and well sorted
pub sorted-answer : (sig : Signature) (ins : List SortId) (Such : List (List Term) → Type 0) (conclusion : List (List Term) → Clause) (o : Option Made) → IsMadeIfAny sig ins Such conclusion o → IsSortedAnswer sig ins Such conclusion (sorted_only sig ins o)
sorted-answer sig ins Such conclusion None h = inl h
sorted-answer sig ins Such conclusion (Some m) h = by (is_sorted_clause sig ins m.clause) refl
  where
    by : (b : Bool) → is_sorted_clause sig ins m.clause ≡ b → IsSortedAnswer sig ins Such conclusion (if b then Some m else None)
    by true e = record { made = h; sorted = e }
    by false e = inr (record { row = m; made = h; unsorted = e })
