-- Resolution is natural: its bindings may be renamed.
use Rattle.std.proofs.Common.{◌≡◌, ◌∙◌, ◌++◌, ℕ, zero, suc, true, refl, sym, ap, subst, List, [], ◌∷◌, map, length, Option, Some, None, option_map}
use Rattle.std.specs.List.{AllByRecursion}
use Rattle.std.proofs.lemmas.List.{map-append}
use Rattle.am_term.specs.declared.id.SortId.{SortId}
use Rattle.am_term.specs.declared.signature.Signature.{Signature}
use Rattle.am_term.specs.declared.term.Term.{Term}
use Rattle.am_term.specs.declared.term.Atom.{Atom}
use Rattle.am_term.specs.declared.term.Literal.{Literal}
use Rattle.am_term.specs.Instance.{instance}
use Rattle.am_term.specs.Sorting.{fit_places}
use Rattle.am_clause.specs.declared.clause.Clause.{Clause}
use Rattle.am_clause.specs.Merge.{merged}
use Rattle.am_clause.specs.Variables.{Variable, occurrences, occurrences_all, in_atom, in_literals, in_answer, in_clause, variables}
use Rattle.am_clause.specs.Renaming.{Numbers, renamed, renamed_all, renamed_literal, renamed_answer, renamed_clause}
use Rattle.am_clause.specs.Numbered.{IsNumbered, sorts_in}
use Rattle.am_clause.proofs.Renames.{Within, within-left, within-right}
use Rattle.am_rules.specs.Row.{in_lists, renamed_lists}
use Rattle.am_rules.specs.Most.{IsUndone}
use Rattle.am_rules.specs.Made.{IsNatural}
use Rattle.am_rules.specs.Parts.{map_atom, literal_under, answer_under, all_but}
use Rattle.am_rules.specs.Resolution.{nth_atom, AtomsMeet, AnswersMeet, ResolveMeets, resolved_literals, resolvent}
use Rattle.am_rules.specs.Binding.{Binds, OfTwo, of_two}
use Rattle.am_rules.proofs.Standing.{Each, each-left, each-right, each-both}
use Rattle.am_rules.proofs.Lifts.{EachAtom, clause, all-by, atom-by, literals-by, answer-by, literals-inner, answer-inner, all-after, atom-after, literals-after, answer-after, renamed-literals, renamed-answer, literals-each, each-literals, all-without, all-append, all-weaker}
use Rattle.am_rules.proofs.InstanceLaws.{Below, instance-renamed, instance-inner, sorts-renamed, bindings-length, numbered-below}
use Rattle.am_rules.proofs.Merging.{Undone, all-merged, merged-renamed}
use Rattle.am_term.specs.Place.{member}
use Rattle.am_clause.specs.Rules.{shared}

-- the variables of the i-th literal are those of the clause
pub record IsAtom (P : Variable → Type 0) (o : Option Atom) : Type 0 where
  pub each : (a : Atom) → o ≡ Some a → Each P (in_atom a)

pub atom-each : (P : Variable → Type 0) (i : ℕ) (ls : List Literal) → AllByRecursion (EachAtom P) ls → (a : Atom) → option_map (λ (l : Literal). l.atom) (member ls i) ≡ Some a → Each P (in_atom a)
atom-each P zero ls h a e = absurd cc
atom-each P (suc i) [] h a e = absurd cc
atom-each P (suc zero) (l ∷ ls) h a e = let is : l.atom ≡ a = cc in subst (λ x. Each P (in_atom x)) is h.0
atom-each P (suc (suc i)) (l ∷ ls) h a e = atom-each P (suc i) ls h.1 a e

-- functions that agree with what comes after those of the premise
module _ (f g h k r : Term → Term) (P Q : Variable → Type 0)
    (left : (t : Term) → Each P (occurrences t) → h t ≡ r (f t)) (right : (t : Term) → Each Q (occurrences t) → k t ≡ r (g t)) where
  pub atoms-after : (o u : Option Atom) → ((a : Atom) → o ≡ Some a → Each P (in_atom a)) → ((b : Atom) → u ≡ Some b → Each Q (in_atom b)) → AtomsMeet f g o u → AtomsMeet h k o u
  atoms-after None u e d m = m
  atoms-after (Some a) None e d m = m
  atoms-after (Some a) (Some b) e d m =
      atom-by h (λ t. r (f t)) P left a (e a refl) ∙ (sym (atom-after r f a) ∙ (ap (map_atom r) m ∙ (atom-after r g b ∙ sym (atom-by k (λ t. r (g t)) Q right b (d b refl)))))

  pub answers-after : (o u : Option (List Term)) → Each P (in_answer o) → Each Q (in_answer u) → AnswersMeet f g o u → AnswersMeet h k o u
  answers-after None u e d m = tt
  answers-after (Some ts) None e d m = tt
  answers-after (Some ts) (Some us) e d m =
      all-by h (λ t. r (f t)) P left ts e ∙ (sym (all-after r f ts) ∙ (ap (map r) m ∙ (all-after r g us ∙ sym (all-by k (λ t. r (g t)) Q right us d))))

-- one parent's share
module _ (c : Clause) (numbered : IsNumbered c) (xs : List Term) (long : length xs ≡ length (variables c)) where
  below : Each (Below (length xs)) (in_clause c)
  below = subst (λ n. Each (Below n) (in_clause c)) (sym long) (numbered-below c numbered)

  pub literals-below : AllByRecursion (EachAtom (Below (length xs))) c.literals
  literals-below = literals-each (Below (length xs)) c.literals (each-left (Below (length xs)) (in_literals c.literals) (in_answer c.answer) below)

  pub answer-below : Each (Below (length xs)) (in_answer c.answer)
  answer-below = each-right (Below (length xs)) (in_literals c.literals) (in_answer c.answer) below

  pub atom-below : (i : ℕ) (a : Atom) → nth_atom i c ≡ Some a → Each (Below (length xs)) (in_atom a)
  atom-below i = atom-each (Below (length xs)) i c.literals literals-below

  pub literals-part : (to : Numbers) (i : ℕ) → map (literal_under (renamed_all to xs)) (all_but i c.literals) ≡ map (renamed_literal to) (map (literal_under xs) (all_but i c.literals))
  literals-part to i =
      literals-by (instance (renamed_all to xs)) (λ t. renamed to (instance xs t)) (Below (length xs)) (instance-renamed to xs) (all_but i c.literals) (all-without (EachAtom (Below (length xs))) i c.literals literals-below)
      ∙ sym (renamed-literals to (map (literal_under xs) (all_but i c.literals)) ∙ literals-after (renamed to) (instance xs) (all_but i c.literals))

  pub answer-part : (to : Numbers) → answer_under (renamed_all to xs) c.answer ≡ renamed_answer to (answer_under xs c.answer)
  answer-part to =
      answer-by (instance (renamed_all to xs)) (λ t. renamed to (instance xs t)) (Below (length xs)) (instance-renamed to xs) c.answer answer-below
      ∙ sym (renamed-answer to (answer_under xs c.answer) ∙ answer-after (renamed to) (instance xs) c.answer)

  pub literals-inside : (i : ℕ) → AllByRecursion (EachAtom (λ v. Within v (occurrences_all xs))) (map (literal_under xs) (all_but i c.literals))
  literals-inside i = literals-inner (instance xs) (Below (length xs)) (λ v. Within v (occurrences_all xs)) (instance-inner xs) (all_but i c.literals) (all-without (EachAtom (Below (length xs))) i c.literals literals-below)

  pub answer-inside : Each (λ v. Within v (occurrences_all xs)) (in_answer (answer_under xs c.answer))
  answer-inside = answer-inner (instance xs) (Below (length xs)) (λ v. Within v (occurrences_all xs)) (instance-inner xs) c.answer answer-below

pub answer-moved : (to : Numbers) (o u : Option (List Term)) → shared (renamed_answer to o) (renamed_answer to u) ≡ renamed_answer to (shared o u)
answer-moved to None u = refl
answer-moved to (Some ts) u = refl

pub answer-either : (P : Variable → Type 0) (o u : Option (List Term)) → Each P (in_answer o) → Each P (in_answer u) → Each P (in_answer (shared o u))
answer-either P None u h k = k
answer-either P (Some ts) u h k = h

module _ (sig : Signature) (ins : List SortId) (p : Clause) (i : ℕ) (q : Clause) (j : ℕ) (first : IsNumbered p) (second : IsNumbered q) where
  module _ (xs ys : List Term) (such : Binds sig ins p q (ResolveMeets p i q j) xs ys) where
    left_long : length xs ≡ length (variables p)
    left_long = bindings-length sig ins p xs such.left

    right_long : length ys ≡ length (variables q)
    right_long = bindings-length sig ins q ys such.right

    abbrev In : Variable → Type 0
    In v = Within v (in_lists (xs ∷ ys ∷ []))

    from_left : (v : Variable) → Within v (occurrences_all xs) → In v
    from_left v m = within-left v (occurrences_all xs) (in_lists (ys ∷ [])) m

    from_right : (v : Variable) → Within v (occurrences_all ys) → In v
    from_right v m = within-right v (occurrences_all xs) (in_lists (ys ∷ [])) (within-left v (occurrences_all ys) [] m)

    weaken : (P : Variable → Type 0) → ((v : Variable) → P v → In v) → (l : Literal) → EachAtom P l → EachAtom In l
    weaken P h l e v m = h v (e v m)

    literals_inner : AllByRecursion (EachAtom In) (resolved_literals p i q j xs ys)
    literals_inner = all-append (EachAtom In) (map (literal_under xs) (all_but i p.literals)) (map (literal_under ys) (all_but j q.literals))
        (all-weaker (EachAtom (λ v. Within v (occurrences_all xs))) (EachAtom In) (weaken (λ v. Within v (occurrences_all xs)) from_left) (map (literal_under xs) (all_but i p.literals)) (literals-inside p first xs left_long i))
        (all-weaker (EachAtom (λ v. Within v (occurrences_all ys))) (EachAtom In) (weaken (λ v. Within v (occurrences_all ys)) from_right) (map (literal_under ys) (all_but j q.literals)) (literals-inside q second ys right_long j))

    clause_inner : Each In (in_clause (resolvent p i q j xs ys))
    clause_inner = each-both In (in_literals (merged (resolved_literals p i q j xs ys))) (in_answer (shared (answer_under xs p.answer) (answer_under ys q.answer)))
        (each-literals In (merged (resolved_literals p i q j xs ys)) (all-merged (EachAtom In) (resolved_literals p i q j xs ys) literals_inner))
        (answer-either In (answer_under xs p.answer) (answer_under ys q.answer)
        (λ v m. from_left v (answer-inside p first xs left_long v m))
        (λ v m. from_right v (answer-inside q second ys right_long v m)))

    module _ (to back : Numbers) (u : IsUndone to back (in_lists (xs ∷ ys ∷ []))) where
      such_renamed : Binds sig ins p q (ResolveMeets p i q j) (renamed_all to xs) (renamed_all to ys)
      such_renamed = record {
        left = subst (λ os. fit_places sig os (sorts_in p) ≡ true) (sym (sorts-renamed sig ins to xs)) such.left;
        right = subst (λ os. fit_places sig os (sorts_in q) ≡ true) (sym (sorts-renamed sig ins to ys)) such.right;
        meets = record {
          atoms = atoms-after (instance xs) (instance ys) (instance (renamed_all to xs)) (instance (renamed_all to ys)) (renamed to) (Below (length xs)) (Below (length ys)) (instance-renamed to xs) (instance-renamed to ys)
              (nth_atom i p) (nth_atom j q) (atom-below p first xs left_long i) (atom-below q second ys right_long j) such.meets.atoms;
          answers = answers-after (instance xs) (instance ys) (instance (renamed_all to xs)) (instance (renamed_all to ys)) (renamed to) (Below (length xs)) (Below (length ys)) (instance-renamed to xs) (instance-renamed to ys)
              p.answer q.answer (answer-below p first xs left_long) (answer-below q second ys right_long) such.meets.answers;
        };
      }

      literals_renamed : merged (resolved_literals p i q j (renamed_all to xs) (renamed_all to ys)) ≡ map (renamed_literal to) (merged (resolved_literals p i q j xs ys))
      literals_renamed =
          ap (λ ls. merged (ls ++ map (literal_under (renamed_all to ys)) (all_but j q.literals))) (literals-part p first xs left_long to i)
          ∙ (ap (λ ls. merged (map (renamed_literal to) (map (literal_under xs) (all_but i p.literals)) ++ ls)) (literals-part q second ys right_long to j)
          ∙ (ap merged (sym (map-append (renamed_literal to) (map (literal_under xs) (all_but i p.literals)) (map (literal_under ys) (all_but j q.literals))))
          ∙ merged-renamed to back (resolved_literals p i q j xs ys) (all-weaker (EachAtom In) (EachAtom (Undone to back)) (λ l e v m. u.undone v.0 v.1 (e v m)) (resolved_literals p i q j xs ys) literals_inner)))

      answer_renamed : shared (answer_under (renamed_all to xs) p.answer) (answer_under (renamed_all to ys) q.answer) ≡ renamed_answer to (shared (answer_under xs p.answer) (answer_under ys q.answer))
      answer_renamed =
          ap (λ o. shared o (answer_under (renamed_all to ys) q.answer)) (answer-part p first xs left_long to)
          ∙ (ap (shared (renamed_answer to (answer_under xs p.answer))) (answer-part q second ys right_long to)
          ∙ answer-moved to (answer_under xs p.answer) (answer_under ys q.answer))

      conclusion_renamed : resolvent p i q j (renamed_all to xs) (renamed_all to ys) ≡ renamed_clause to (resolvent p i q j xs ys)
      conclusion_renamed =
          ap (λ ls. clause ls (shared (answer_under (renamed_all to xs) p.answer) (answer_under (renamed_all to ys) q.answer))) literals_renamed
          ∙ ap (clause (map (renamed_literal to) (merged (resolved_literals p i q j xs ys)))) answer_renamed

  such : (to back : Numbers) (ws : List (List Term)) → IsUndone to back (in_lists ws) → OfTwo (Binds sig ins p q (ResolveMeets p i q j)) ws → OfTwo (Binds sig ins p q (ResolveMeets p i q j)) (renamed_lists to ws)
  such to back [] u h = h
  such to back (xs ∷ []) u h = h
  such to back (xs ∷ ys ∷ []) u h = such_renamed xs ys h to back u
  such to back (xs ∷ ys ∷ zs ∷ ws) u h = h

  concluded : (to back : Numbers) (ws : List (List Term)) → IsUndone to back (in_lists ws) → OfTwo (Binds sig ins p q (ResolveMeets p i q j)) ws → of_two (resolvent p i q j) (renamed_lists to ws) ≡ renamed_clause to (of_two (resolvent p i q j) ws)
  concluded to back [] u h = absurd h
  concluded to back (xs ∷ []) u h = absurd h
  concluded to back (xs ∷ ys ∷ []) u h = conclusion_renamed xs ys h to back u
  concluded to back (xs ∷ ys ∷ zs ∷ ws) u h = absurd h

  inner : (ws : List (List Term)) → OfTwo (Binds sig ins p q (ResolveMeets p i q j)) ws → (v : Variable) → Within v (in_clause (of_two (resolvent p i q j) ws)) → Within v (in_lists ws)
  inner [] h v m = absurd h
  inner (xs ∷ []) h v m = absurd h
  inner (xs ∷ ys ∷ []) h v m = clause_inner xs ys h v m
  inner (xs ∷ ys ∷ zs ∷ ws) h v m = absurd h

  pub resolution-natural : IsNatural (OfTwo (Binds sig ins p q (ResolveMeets p i q j))) (of_two (resolvent p i q j))
  resolution-natural = record { such = such; concluded = concluded; inner = inner }
