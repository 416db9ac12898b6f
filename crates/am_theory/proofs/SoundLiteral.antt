-- After the declaration of a literal all is sound.
use Rattle.std.proofs.Common.{◌≡◌, ◌∙◌, ℕ, true, false, Option, Some, None, List, [], ◌∷◌, ◌++◌, length, refl, sym, ap, arith, slice_get, true≢false}
use Rattle.std.specs.Prelude.{ℤ, is_some, nat_le}
use Rattle.std.specs.Ordering.{int_eq}
use Rattle.std.specs.List.{AllByRecursion, Contains, list_all, list_any}
use Rattle.std.proofs.lemmas.Option.{same_Some}
use Rattle.std.proofs.lemmas.Bool.Decides.{Decides-int_eq}
use Rattle.std.proofs.lemmas.List.Elements.{Contains-append_left, Contains-push}
use Rattle.am_term.specs.declared.id.SortId.{SortId}
use Rattle.am_term.specs.declared.kind.SymKind.TheVariants as kind
use Rattle.am_term.specs.Sorts.{akin_in}
use Rattle.am_term.proofs.Tests.{and_both, and_right, false_not, never_both, same_tests}
use Rattle.am_text.specs.Bytes.{is_text_byte}
use Rattle.am_syntax.specs.Scopes.{Profile, result_of}
use Rattle.am_syntax.proofs.Among.{none_left, none_right}
use Rattle.am_theory.specs.declared.theory.Rep.{Rep}
use Rattle.am_theory.specs.declared.theory.LitValue.{LitValue}
use Rattle.am_theory.specs.declared.theory.LitValue.TheVariants as value
use Rattle.am_theory.specs.declared.theory.LiteralDecl.{LiteralDecl}
use Rattle.am_theory.specs.declared.declaration.Declaration.TheVariants as decl
use Rattle.am_theory.specs.Contents.{Contents, sort_number, rep_named, next_symbol, with_decl}
use Rattle.am_theory.specs.Faults.{has_unknown_name, is_unknown_sort, is_twice, is_taken, is_literal_of, is_akin_to, same_value, is_badly_represented, suits, is_over_limit}
use Rattle.am_theory.specs.Facts.{is_value}
use Rattle.am_theory.specs.Traces.{IsWritten, is_written_value}
use Rattle.am_theory.proofs.Appends.{before, behind, all-push, all-failed, all-at, get-end, get-side, get-only}
use Rattle.am_theory.proofs.NoFault.{IsFaultless}
use Rattle.am_theory.proofs.Growing.{literal-sort}
use Rattle.am_theory.proofs.Kinship.{akin-turned}
use Rattle.am_theory.proofs.MoreSymbols.{MayBeAdded, kept, symbols-larger, routines-larger, functions-larger, literals-larger, one-each-larger, axioms-larger, of-kind}
use Rattle.am_theory.proofs.Sound.{LiteralSound, Sound, OneEach, LiteralsListed, sort_at, sort_rep}
use Rattle.am_theory.proofs.SortNames.{sort-there, rep-there}
use Rattle.am_theory.proofs.SoundSymbol.{one-added, outputs-still, values-still}
use Rattle.am_theory.proofs.SymbolNumbers.{literal-numbered}
use Rattle.am_theory.proofs.Appends.{names-turned}

-- ---- values
suits-some : (v : LitValue) (o : Option Rep) → suits v o ≡ true → is_some o ≡ true
suits-some (value.Int z) None e = absurd (true≢false (sym e))
suits-some (value.Text t) None e = absurd (true≢false (sym e))
suits-some v (Some r) e = refl

value-is : (v : LitValue) → is_written_value v ≡ true → is_value v ≡ true
value-is (value.Int z) e = e
value-is (value.Text t) e = and_right (nat_le (length t) 255) (list_all is_text_byte t) e

ints-turned : (a b : ℤ) → int_eq a b ≡ int_eq b a
ints-turned a b =
    let h = Decides-int_eq a b in
    let k = Decides-int_eq b a in
    same_tests (int_eq a b) (int_eq b a) (λ e. k.1 (sym (h.0 e))) (λ e. h.1 (sym (k.0 e)))

values-turned : (v w : LitValue) → same_value v w ≡ same_value w v
values-turned (value.Int a) (value.Int b) = ints-turned a b
values-turned (value.Int a) (value.Text t) = refl
values-turned (value.Text t) (value.Int a) = refl
values-turned (value.Text t) (value.Text u) = names-turned t u

module _ (c : Contents) (s : Sound c) (n : List ℕ) (w : List ℕ) (v : LitValue) where
  abbrev literal_profile : Profile
  literal_profile = record { name = n; args = []; result = Some (sort_number c w); kind = kind.Literal }

  abbrev literal : LiteralDecl
  literal = record { symbol = next_symbol c; value = v }

  abbrev larger : List Profile
  larger = c.symbols ++ literal_profile ∷ []

  module _ (h : IsWritten (decl.Literal n w v)) (f : IsFaultless c (decl.Literal n w v)) where
    known : is_unknown_sort c w ≡ false
    unfolding has_unknown_name
    known = f.known

    new : is_taken c n ≡ false
    unfolding is_twice
    new = none_left (is_taken c n) (list_any (is_literal_of c (sort_number c w) v) c.literals) f.new

    others : AllByRecursion (λ l. is_literal_of c (sort_number c w) v l ≡ false) c.literals
    unfolding is_twice
    others = all-failed (is_literal_of c (sort_number c w) v) c.literals (none_right (is_taken c n) (list_any (is_literal_of c (sort_number c w) v) c.literals) f.new)

    suited : suits v (sort_rep c.reps (sort_number c w)) ≡ true
    unfolding is_badly_represented
    suited = ap (suits v) (sym (rep-there c w known)) ∙ false_not (suits v (rep_named c w)) f.represented

    literal-added : MayBeAdded c (literal_profile ∷ [])
    unfolding is_over_limit
    literal-added = one-added c literal_profile (record { named = h.0; args = tt; result = sort-there c w known; few = omega arith }) new f.few

    there : slice_get larger (length c.symbols) ≡ Some literal_profile
    there = get-end c.symbols [] literal_profile

    literal-sound : LiteralSound c.reps larger literal
    literal-sound = record {
      stands = record {
        symbol = literal_profile;
        there = there;
        of_kind = refl;
        with_args = refl;
        sort = sort_number c w;
        result = refl;
        concrete = suits-some v (sort_rep c.reps (sort_number c w)) suited;
      };
      suited = suited;
      valued = value-is v h.2;
    }

    -- ---- no earlier literal has this value and this sort
    sort-is : (r : SortId) → sort_at larger (next_symbol c) ≡ Some r → sort_number c w ≡ r
    sort-is r e = same_Some (sort_number c w) r (sym (ap result_of there) ∙ e)

    clash : (l : LiteralDecl) (r : SortId) → is_literal_of c (sort_number c w) v l ≡ false → sort_at c.symbols l.symbol ≡ Some r → akin_in c.parents (sort_number c w) r ≡ true → same_value v l.value ≡ true → ⊥
    clash l r e a b i =
        let akin : is_akin_to c.parents (sort_number c w) (sort_at c.symbols l.symbol) ≡ true = ap (is_akin_to c.parents (sort_number c w)) a ∙ b in
        never_both (is_literal_of c (sort_number c w) v l) (and_both (same_value v l.value) (is_akin_to c.parents (sort_number c w) (sort_at c.symbols l.symbol)) i akin) e

    earlier : (i : ℕ) (l : LiteralDecl) (r : SortId) → slice_get c.literals i ≡ Some l → sort_at larger l.symbol ≡ Some r → sort_at c.symbols l.symbol ≡ Some r
    earlier i l r e a = literal-sort c.reps c.reps (λ k x q. q) c.symbols larger (kept c s (literal_profile ∷ []) literal-added) l r (all-at (LiteralSound c.reps c.symbols) c.literals i l s.of_literals e) a

    never-again : (i : ℕ) (l m : LiteralDecl) (r u : SortId) → slice_get c.literals i ≡ Some l → literal ≡ m → sort_at larger l.symbol ≡ Some r → sort_at larger m.symbol ≡ Some u → akin_in c.parents u r ≡ true → same_value l.value m.value ≡ true → ⊥
    never-again i l m r u e g a b k q =
        clash l r (all-at (λ x. is_literal_of c (sort_number c w) v x ≡ false) c.literals i l others e) (earlier i l r e a)
        (ap (λ (x : SortId). akin_in c.parents x r) (sort-is u (ap (λ (x : LiteralDecl). sort_at larger x.symbol) g ∙ b)) ∙ k)
        (values-turned v l.value ∙ ap (λ (x : LiteralDecl). same_value l.value x.value) g ∙ q)

    one-each : OneEach c.parents larger (c.literals ++ literal ∷ [])
    one-each i j l m r u e g a b k q = elim (get-side c.literals (literal ∷ []) i l e) [
      | before e1 ↦ elim (get-side c.literals (literal ∷ []) j m g) [
        | before g1 ↦ one-each-larger c s (literal_profile ∷ []) literal-added i j l m r u e1 g1 a b k q
        | behind j0 y g1 ↦ let o = get-only literal j0 m g1 in absurd (never-again i l m r u e1 o.1 a b (akin-turned c.parents u r ∙ k) q)
      ]
      | behind i0 x e1 ↦ elim (get-side c.literals (literal ∷ []) j m g) [
        | before g1 ↦ let o = get-only literal i0 l e1 in absurd (never-again j m l u r g1 o.1 b a k (values-turned m.value l.value ∙ q))
        | behind j0 y g1 ↦ let o : (i0 ≡ 0) × (literal ≡ l) = get-only literal i0 l e1 in let p : (j0 ≡ 0) × (literal ≡ m) = get-only literal j0 m g1 in let first : i0 ≡ 0 = o.0 in let second : j0 ≡ 0 = p.0 in omega arith
      ]
    ]

    constants : LiteralsListed larger (c.literals ++ literal ∷ [])
    constants k z e g = of-kind c.symbols literal_profile kind.Literal ((l : LiteralDecl) × Contains (c.literals ++ literal ∷ []) l × (l.symbol.0 ≡ k)) k z e g
        (λ q. let o = s.constants k z q g in (o.0, Contains-append_left c.literals (literal ∷ []) o.0 o.1, o.2))
        (λ i q. (literal, Contains-push c.literals literal, sym i))

    pub sound-Literal : Sound (with_decl c (decl.Literal n w v))
    unfolding with_decl
    sound-Literal =
        let a = literal-added in
        let ys = literal_profile ∷ [] in
        record {
          of_sorts = s.of_sorts;
          of_called = s.of_called;
          of_symbols = symbols-larger c s ys a;
          of_routines = routines-larger c s ys a;
          of_functions = functions-larger c s ys a;
          of_literals = all-push (LiteralSound c.reps larger) c.literals literal (literals-larger c s ys a) literal-sound;
          one_each = one-each;
          outputs = outputs-still c s literal_profile (λ e. cc);
          values = values-still c s literal_profile (λ e. cc);
          constants = constants;
          numbered = literal-numbered c s literal refl;
          of_axioms = axioms-larger c s ys a;
          few_axioms = s.few_axioms;
        }
