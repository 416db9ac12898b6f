-- Paramodulation is natural: its bindings may be renamed.
use Rattle.std.proofs.Common.{◌≡◌, ◌∙◌, ◌++◌, ℕ, zero, suc, true, refl, sym, ap, subst, List, [], ◌∷◌, map, length, Option, Some, None, option_map, option_and_then}
use Rattle.std.specs.List.{AllByRecursion}
use Rattle.std.proofs.lemmas.List.{map-append}
use Rattle.am_term.specs.declared.id.SortId.{SortId}
use Rattle.am_term.specs.declared.id.SymId.{SymId}
use Rattle.am_term.specs.declared.signature.Signature.{Signature}
use Rattle.am_term.specs.declared.term.Term.{Term}
use Rattle.am_term.specs.declared.term.Term.TheVariants.{App}
use Rattle.am_term.specs.declared.term.Atom.{Atom}
use Rattle.am_term.specs.declared.term.Atom.TheVariants.{Rel, Eq}
use Rattle.am_term.specs.declared.term.Literal.{Literal}
use Rattle.am_term.specs.Induct.{term_cases}
use Rattle.am_term.specs.Instance.{instance}
use Rattle.am_term.specs.Place.{member, args_of, place, args_of-Var, args_of-In, args_of-App}
use Rattle.am_term.specs.Sorting.{fit_places}
use Rattle.am_clause.specs.declared.clause.Clause.{Clause}
use Rattle.am_clause.specs.declared.row.Side.{Side}
use Rattle.am_clause.specs.declared.row.Side.TheVariants.{Left, Right}
use Rattle.am_clause.specs.Merge.{merged}
use Rattle.am_clause.specs.Variables.{Variable, occurrences, occurrences_all, in_atom, in_literals, in_answer, in_clause, variables}
use Rattle.am_clause.specs.Renaming.{Numbers, renamed, renamed_all, renamed_literal, renamed_answer, renamed_clause}
use Rattle.am_clause.specs.Numbered.{IsNumbered, sorts_in}
use Rattle.am_clause.proofs.Renames.{Within, within-left, within-right}
use Rattle.am_rules.specs.Row.{in_lists, renamed_lists}
use Rattle.am_rules.specs.Most.{IsUndone}
use Rattle.am_rules.specs.Made.{IsNatural}
use Rattle.am_rules.specs.Parts.{literal_under, answer_under, all_but}
use Rattle.am_rules.specs.Binding.{Binds, OfTwo, of_two}
use Rattle.am_rules.specs.Replacing.{other_of, put_part, changed}
use Rattle.am_rules.specs.Resolution.{nth_atom}
use Rattle.am_rules.specs.Paramodulation.{TermsMeet, side_in, other_in, part_in, ParaMeets, replaced_literals, paramodulant}
use Rattle.am_rules.proofs.Solutions.{all-terms, atom-terms}
use Rattle.am_rules.proofs.Standing.{Each, each-App, each-both}
use Rattle.am_rules.proofs.Lifts.{EachAtom, clause, literals-by, literals-inner, literals-after, renamed-literals, each-literals, all-append, all-weaker}
use Rattle.am_rules.proofs.InstanceLaws.{Below, instance-renamed, instance-inner, sorts-renamed, bindings-length}
use Rattle.am_rules.proofs.Merging.{Undone, all-merged, merged-renamed}
use Rattle.am_rules.proofs.Replacings.{IfEach, changed-each, changed-renamed}
use Rattle.am_rules.proofs.Resolvents.{answers-after, literals-below, answer-below, atom-below, literals-part, answer-part, literals-inside, answer-inside, answer-moved, answer-either}
use Rattle.am_term.specs.Parts.{parts_of, place_in}
use Rattle.am_clause.specs.Rules.{side_of, shared}

-- What holds of terms and of their arguments holds of their parts.
module _ (G : Term → Type 0) (down : (f : SymId) (ts : List Term) → G (App f ts) → AllByRecursion G ts) where
  pub member-holds : (ts : List Term) (k : ℕ) (x : Term) → member ts k ≡ Some x → AllByRecursion G ts → G x
  member-holds ts zero x e h = absurd cc
  member-holds [] (suc k) x e h = absurd cc
  member-holds (t ∷ ts) (suc zero) x e h = let is : t ≡ x = cc in subst G is h.0
  member-holds (t ∷ ts) (suc (suc k)) x e h = member-holds ts (suc k) x e h.1

  args-hold : (t : Term) → G t → AllByRecursion G (args_of t)
  args-hold = term_cases (λ t. G t → AllByRecursion G (args_of t))
      (λ n s h. rw args_of-Var tt)
      (λ k h. rw args_of-In tt)
      (λ f ts h. rw args_of-App (down f ts h))

  pub place-holds : (path : List ℕ) (t u : Term) → place path t ≡ Some u → G t → G u
  place-holds [] t u e h = let is : t ≡ u = cc in subst G is h
  place-holds (k ∷ path) t u e h = at (member (args_of t) k) refl e (place-holds path)
    where
      at : (o : Option Term) → member (args_of t) k ≡ o → option_and_then (place path) o ≡ Some u → ((x y : Term) → place path x ≡ Some y → G x → G y) → G u
      at None m d g = absurd cc
      at (Some x) m d g = g x u d (member-holds (args_of t) k x m (args-hold t h))

  pub part-holds : (path : List ℕ) (a : Atom) (u : Term) → place_in path a ≡ Some u → AllByRecursion G (parts_of a) → G u
  part-holds [] a u e h = absurd cc
  part-holds (k ∷ path) a u e h = at (member (parts_of a) k) refl e
    where
      at : (o : Option Term) → member (parts_of a) k ≡ o → option_and_then (place path) o ≡ Some u → G u
      at None m d = absurd cc
      at (Some x) m d = place-holds path x u d (member-holds (parts_of a) k x m h)

  pub side-holds : (side : Side) (a : Atom) (u : Term) → side_of side a ≡ Some u → AllByRecursion G (parts_of a) → G u
  side-holds side (Rel r args) u e h = absurd cc
  side-holds Left (Eq l r) u e h = let is : l ≡ u = cc in subst G is h.0
  side-holds Right (Eq l r) u e h = let is : r ≡ u = cc in subst G is h.1.0

  pub other-holds : (side : Side) (a : Atom) (u : Term) → other_of side a ≡ Some u → AllByRecursion G (parts_of a) → G u
  other-holds side (Rel r args) u e h = absurd cc
  other-holds Left (Eq l r) u e h = let is : r ≡ u = cc in subst G is h.1.0
  other-holds Right (Eq l r) u e h = let is : l ≡ u = cc in subst G is h.0

pub terms-after : (f g h k r : Term → Term) (o u : Option Term) → ((t : Term) → o ≡ Some t → h t ≡ r (f t)) → ((t : Term) → u ≡ Some t → k t ≡ r (g t)) → TermsMeet f g o u → TermsMeet h k o u
terms-after f g h k r None u e d m = m
terms-after f g h k r (Some t) None e d m = m
terms-after f g h k r (Some t) (Some u) e d m = e t refl ∙ (ap r m ∙ sym (d u refl))

pub then-at : {A B : Type 0} (o : Option A) (f : A → Option B) (u : B) → option_and_then f o ≡ Some u → (x : A) × (o ≡ Some x) × (f x ≡ Some u)
then-at None f u e = absurd cc
then-at (Some x) f u e = (x, refl, e)

abbrev Among : (Variable → Type 0) → Term → Type 0
Among P t = Each P (occurrences t)

among-down : (P : Variable → Type 0) (f : SymId) (ts : List Term) → Among P (App f ts) → AllByRecursion (Among P) ts
among-down P f ts h = all-terms P ts (each-App P f ts h)

module _ (P : Variable → Type 0) (c : Clause) (here : (i : ℕ) (a : Atom) → nth_atom i c ≡ Some a → Each P (in_atom a)) where
  pub side-each : (i : ℕ) (side : Side) (u : Term) → side_in c i side ≡ Some u → Each P (occurrences u)
  side-each i side u e = let r : (a : Atom) × (nth_atom i c ≡ Some a) × (side_of side a ≡ Some u) = then-at (nth_atom i c) (side_of side) u e in
      side-holds (Among P) (among-down P) side r.0 u r.2 (atom-terms P r.0 (here i r.0 r.1))

  pub other-each : (i : ℕ) (side : Side) (u : Term) → other_in c i side ≡ Some u → Each P (occurrences u)
  other-each i side u e = let r : (a : Atom) × (nth_atom i c ≡ Some a) × (other_of side a ≡ Some u) = then-at (nth_atom i c) (other_of side) u e in
      other-holds (Among P) (among-down P) side r.0 u r.2 (atom-terms P r.0 (here i r.0 r.1))

  pub part-each : (i : ℕ) (path : List ℕ) (u : Term) → part_in c i path ≡ Some u → Each P (occurrences u)
  part-each i path u e = let r : (a : Atom) × (nth_atom i c ≡ Some a) × (place_in path a ≡ Some u) = then-at (nth_atom i c) (place_in path) u e in
      part-holds (Among P) (among-down P) path r.0 u r.2 (atom-terms P r.0 (here i r.0 r.1))

module _ (sig : Signature) (ins : List SortId) (p : Clause) (j : ℕ) (side : Side) (q : Clause) (i : ℕ) (path : List ℕ) (first : IsNumbered p) (second : IsNumbered q) where
  abbrev Bound : List Term → List Term → Type 0
  Bound = Binds sig ins p q (ParaMeets p j side q i path)

  module _ (xs ys : List Term) (such : Bound xs ys) where
    left_long : length xs ≡ length (variables p)
    left_long = bindings-length sig ins p xs such.left

    right_long : length ys ≡ length (variables q)
    right_long = bindings-length sig ins q ys such.right

    abbrev In_ : Variable → Type 0
    In_ v = Within v (in_lists (xs ∷ ys ∷ []))

    from_left : (v : Variable) → Within v (occurrences_all xs) → In_ v
    from_left v m = within-left v (occurrences_all xs) (in_lists (ys ∷ [])) m

    from_right : (v : Variable) → Within v (occurrences_all ys) → In_ v
    from_right v m = within-right v (occurrences_all xs) (in_lists (ys ∷ [])) (within-left v (occurrences_all ys) [] m)

    weaken : (P : Variable → Type 0) → ((v : Variable) → P v → In_ v) → (l : Literal) → EachAtom P l → EachAtom In_ l
    weaken P h l e v m = h v (e v m)

    abbrev new : Option Term
    new = option_map (instance xs) (other_in p j side)

    new_inner : (o : Option Term) → ((u : Term) → o ≡ Some u → Each (Below (length xs)) (occurrences u)) → IfEach In_ (option_map (instance xs) o)
    new_inner None h = tt
    new_inner (Some u) h = λ v m. from_left v (instance-inner xs u (h u refl) v m)

    old_inner : AllByRecursion (EachAtom In_) (map (literal_under ys) q.literals)
    old_inner = all-weaker (EachAtom (λ v. Within v (occurrences_all ys))) (EachAtom In_) (weaken (λ v. Within v (occurrences_all ys)) from_right) (map (literal_under ys) q.literals)
        (literals-inner (instance ys) (Below (length ys)) (λ v. Within v (occurrences_all ys)) (instance-inner ys) q.literals (literals-below q second ys right_long))

    literals_inner : AllByRecursion (EachAtom In_) (replaced_literals p j side q i path xs ys)
    literals_inner = all-append (EachAtom In_) (changed i (put_part new path) (map (literal_under ys) q.literals)) (map (literal_under xs) (all_but j p.literals))
        (changed-each In_ i new path (map (literal_under ys) q.literals) (new_inner (other_in p j side) (other-each (Below (length xs)) p (atom-below p first xs left_long) j side)) old_inner)
        (all-weaker (EachAtom (λ v. Within v (occurrences_all xs))) (EachAtom In_) (weaken (λ v. Within v (occurrences_all xs)) from_left) (map (literal_under xs) (all_but j p.literals)) (literals-inside p first xs left_long j))

    clause_inner : Each In_ (in_clause (paramodulant p j side q i path xs ys))
    clause_inner = each-both In_ (in_literals (merged (replaced_literals p j side q i path xs ys))) (in_answer (shared (answer_under xs p.answer) (answer_under ys q.answer)))
        (each-literals In_ (merged (replaced_literals p j side q i path xs ys)) (all-merged (EachAtom In_) (replaced_literals p j side q i path xs ys) literals_inner))
        (answer-either In_ (answer_under xs p.answer) (answer_under ys q.answer)
        (λ v m. from_left v (answer-inside p first xs left_long v m))
        (λ v m. from_right v (answer-inside q second ys right_long v m)))

    module _ (to back : Numbers) (u : IsUndone to back (in_lists (xs ∷ ys ∷ []))) where
      such_renamed : Bound (renamed_all to xs) (renamed_all to ys)
      such_renamed = record {
        left = subst (λ os. fit_places sig os (sorts_in p) ≡ true) (sym (sorts-renamed sig ins to xs)) such.left;
        right = subst (λ os. fit_places sig os (sorts_in q) ≡ true) (sym (sorts-renamed sig ins to ys)) such.right;
        meets = record {
          terms = terms-after (instance xs) (instance ys) (instance (renamed_all to xs)) (instance (renamed_all to ys)) (renamed to) (side_in p j side) (part_in q i path)
              (λ t e. instance-renamed to xs t (side-each (Below (length xs)) p (atom-below p first xs left_long) j side t e))
              (λ t e. instance-renamed to ys t (part-each (Below (length ys)) q (atom-below q second ys right_long) i path t e)) such.meets.terms;
          answers = answers-after (instance xs) (instance ys) (instance (renamed_all to xs)) (instance (renamed_all to ys)) (renamed to) (Below (length xs)) (Below (length ys)) (instance-renamed to xs) (instance-renamed to ys)
              p.answer q.answer (answer-below p first xs left_long) (answer-below q second ys right_long) such.meets.answers;
        };
      }

      new_renamed : (o : Option Term) → ((t : Term) → o ≡ Some t → Each (Below (length xs)) (occurrences t)) → option_map (instance (renamed_all to xs)) o ≡ option_map (renamed to) (option_map (instance xs) o)
      new_renamed None h = refl
      new_renamed (Some t) h = ap Some (instance-renamed to xs t (h t refl))

      all_part : map (literal_under (renamed_all to ys)) q.literals ≡ map (renamed_literal to) (map (literal_under ys) q.literals)
      all_part = literals-by (instance (renamed_all to ys)) (λ t. renamed to (instance ys t)) (Below (length ys)) (instance-renamed to ys) q.literals (literals-below q second ys right_long)
          ∙ sym (renamed-literals to (map (literal_under ys) q.literals) ∙ literals-after (renamed to) (instance ys) q.literals)

      changed_part : changed i (put_part (option_map (instance (renamed_all to xs)) (other_in p j side)) path) (map (literal_under (renamed_all to ys)) q.literals) ≡ map (renamed_literal to) (changed i (put_part new path) (map (literal_under ys) q.literals))
      changed_part =
          ap (λ o. changed i (put_part o path) (map (literal_under (renamed_all to ys)) q.literals)) (new_renamed (other_in p j side) (other-each (Below (length xs)) p (atom-below p first xs left_long) j side))
          ∙ (ap (changed i (put_part (option_map (renamed to) new) path)) all_part ∙ changed-renamed to i new path (map (literal_under ys) q.literals))

      literals_renamed : merged (replaced_literals p j side q i path (renamed_all to xs) (renamed_all to ys)) ≡ map (renamed_literal to) (merged (replaced_literals p j side q i path xs ys))
      literals_renamed =
          ap (λ ls. merged (ls ++ map (literal_under (renamed_all to xs)) (all_but j p.literals))) changed_part
          ∙ (ap (λ ls. merged (map (renamed_literal to) (changed i (put_part new path) (map (literal_under ys) q.literals)) ++ ls)) (literals-part p first xs left_long to j)
          ∙ (ap merged (sym (map-append (renamed_literal to) (changed i (put_part new path) (map (literal_under ys) q.literals)) (map (literal_under xs) (all_but j p.literals))))
          ∙ merged-renamed to back (replaced_literals p j side q i path xs ys) (all-weaker (EachAtom In_) (EachAtom (Undone to back)) (λ l e v m. u.undone v.0 v.1 (e v m)) (replaced_literals p j side q i path xs ys) literals_inner)))

      answer_renamed : shared (answer_under (renamed_all to xs) p.answer) (answer_under (renamed_all to ys) q.answer) ≡ renamed_answer to (shared (answer_under xs p.answer) (answer_under ys q.answer))
      answer_renamed =
          ap (λ o. shared o (answer_under (renamed_all to ys) q.answer)) (answer-part p first xs left_long to)
          ∙ (ap (shared (renamed_answer to (answer_under xs p.answer))) (answer-part q second ys right_long to)
          ∙ answer-moved to (answer_under xs p.answer) (answer_under ys q.answer))

      conclusion_renamed : paramodulant p j side q i path (renamed_all to xs) (renamed_all to ys) ≡ renamed_clause to (paramodulant p j side q i path xs ys)
      conclusion_renamed =
          ap (λ ls. clause ls (shared (answer_under (renamed_all to xs) p.answer) (answer_under (renamed_all to ys) q.answer))) literals_renamed
          ∙ ap (clause (map (renamed_literal to) (merged (replaced_literals p j side q i path xs ys)))) answer_renamed

  such : (to back : Numbers) (ws : List (List Term)) → IsUndone to back (in_lists ws) → OfTwo Bound ws → OfTwo Bound (renamed_lists to ws)
  such to back [] u h = h
  such to back (xs ∷ []) u h = h
  such to back (xs ∷ ys ∷ []) u h = such_renamed xs ys h to back u
  such to back (xs ∷ ys ∷ zs ∷ ws) u h = h

  concluded : (to back : Numbers) (ws : List (List Term)) → IsUndone to back (in_lists ws) → OfTwo Bound ws → of_two (paramodulant p j side q i path) (renamed_lists to ws) ≡ renamed_clause to (of_two (paramodulant p j side q i path) ws)
  concluded to back [] u h = absurd h
  concluded to back (xs ∷ []) u h = absurd h
  concluded to back (xs ∷ ys ∷ []) u h = conclusion_renamed xs ys h to back u
  concluded to back (xs ∷ ys ∷ zs ∷ ws) u h = absurd h

  inner : (ws : List (List Term)) → OfTwo Bound ws → (v : Variable) → Within v (in_clause (of_two (paramodulant p j side q i path) ws)) → Within v (in_lists ws)
  inner [] h v m = absurd h
  inner (xs ∷ []) h v m = absurd h
  inner (xs ∷ ys ∷ []) h v m = clause_inner xs ys h v m
  inner (xs ∷ ys ∷ zs ∷ ws) h v m = absurd h

  pub para-natural : IsNatural (OfTwo Bound) (of_two (paramodulant p j side q i path))
  para-natural = record { such = such; concluded = concluded; inner = inner }
