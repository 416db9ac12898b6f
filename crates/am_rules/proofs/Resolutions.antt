-- What resolution by unification gives is right.
use Rattle.std.proofs.Common.{◌≡◌, ℕ, true, List}
use Rattle.am_term.specs.declared.id.SortId.{SortId}
use Rattle.am_term.specs.declared.signature.Signature.{Signature}
use Rattle.am_term.specs.declared.term.Term.{Term}
use Rattle.am_clause.specs.declared.clause.Clause.{Clause}
use Rattle.am_clause.specs.Numbered.{IsNumbered}
use Rattle.am_rules.specs.Made.{IsMadeIfAny}
use Rattle.am_rules.specs.Binding.{Binds, OfTwo, of_two}
use Rattle.am_rules.specs.Resolution.{nth_atom, AtomsMeet, AnswersMeet, ResolveMeets, resolvent}
use Rattle.am_rules.specs.Asked.{asked}
use Rattle.am_rules.specs.Solving.{resolution}
use Rattle.am_rules.proofs.AskedLaws.{Told, told-as, Holding, asked-told, asked-both}
use Rattle.am_rules.proofs.Solutions.{S, T, atom_good, answer_good, by_pairs}
use Rattle.am_rules.proofs.Resolvents.{resolution-natural}
use Rattle.am_clause.specs.SortedClause.{is_sorted_clause}

module _ (sig : Signature) (ins : List SortId) (p : Clause) (i : ℕ) (q : Clause) (j : ℕ) (first : IsNumbered p) (second : IsNumbered q)
    (left_sorted : is_sorted_clause sig ins p ≡ true) (right_sorted : is_sorted_clause sig ins q ≡ true) where
  told : (f g : Term → Term) → Told f g (ResolveMeets p i q j f g) (asked (nth_atom i p) (nth_atom j q) p.answer q.answer)
  told f g = told-as f g (AtomsMeet f g (nth_atom i p) (nth_atom j q) × AnswersMeet f g p.answer q.answer) (ResolveMeets p i q j f g)
      (λ h. record { atoms = h.0; answers = h.1 }) (λ h. (h.atoms, h.answers)) (asked (nth_atom i p) (nth_atom j q) p.answer q.answer) (asked-told f g (nth_atom i p) (nth_atom j q) p.answer q.answer)

  holding : Holding (λ t. S sig ins p q first second left_sorted right_sorted (ResolveMeets p i q j) (resolvent p i q j) (resolution-natural sig ins p i q j first second) t)
      (λ t. T sig ins p q first second left_sorted right_sorted (ResolveMeets p i q j) (resolvent p i q j) (resolution-natural sig ins p i q j first second) t) (asked (nth_atom i p) (nth_atom j q) p.answer q.answer)
  holding = asked-both (λ t. S sig ins p q first second left_sorted right_sorted (ResolveMeets p i q j) (resolvent p i q j) (resolution-natural sig ins p i q j first second) t)
      (λ t. T sig ins p q first second left_sorted right_sorted (ResolveMeets p i q j) (resolvent p i q j) (resolution-natural sig ins p i q j first second) t)
      (nth_atom i p) (nth_atom j q) p.answer q.answer (atom_good sig ins p first left_sorted i) (atom_good sig ins q second right_sorted j)
      (answer_good sig ins p first left_sorted) (answer_good sig ins q second right_sorted)

  pub resolution-answer : IsMadeIfAny sig ins (OfTwo (Binds sig ins p q (ResolveMeets p i q j))) (of_two (resolvent p i q j)) (resolution sig ins p i q j)
  resolution-answer = by_pairs sig ins p q first second left_sorted right_sorted (ResolveMeets p i q j) (resolvent p i q j) (resolution-natural sig ins p i q j first second)
      (asked (nth_atom i p) (nth_atom j q) p.answer q.answer) told holding
