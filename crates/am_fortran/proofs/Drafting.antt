-- A draft and its items.
use Rattle.std.proofs.Common.{◌≡◌, ◌++◌, ◌≤◌, ℕ, Bool, true, false, List, [], ◌∷◌, length, map, refl, sym, ap, ◌∙◌}
use Rattle.std.specs.List.{list_all}
use Rattle.std.specs.Str.{bytes_eq}
use Rattle.std.specs.Prelude.{◌&&◌, nat_le, if◌then◌else◌}
use Rattle.std.proofs.lemmas.Bool.{and_parts, leb-true, eq-eqb, and_from, both_ways}
use Rattle.std.proofs.lemmas.List.{map_push}
use Rattle.std.proofs.lemmas.List.Folds.{list_all-append, list_all-map}
use mathlib.Core.List.{append_assoc, append-nil}
use Rattle.am_term.specs.Names.{is_fortran_name}
use Rattle.am_fortran.specs.Well.{is_between, is_declaration, is_statement, fits_statement}
use Rattle.am_fortran.specs.Items.{is_item, item_text}
use Rattle.am_fortran.specs.Drafts.{draft_items, SpellsNone}
use Rattle.am_fortran.specs.Words.{words}
use Rattle.am_fortran.specs.Guess.{guessed}
use Rattle.am_fortran.specs.declared.draft.Draft.{Draft}
use Rattle.am_fortran.specs.declared.item.Item.{Item}
use Rattle.am_fortran.specs.declared.item.Item.TheVariants.{Head, Declaration, Executable, End}
use Rattle.am_fortran.specs.declared.statement.Decl.{Decl}
use Rattle.am_fortran.specs.declared.statement.Statement.{Statement}
use Rattle.am_fortran.proofs.Again.{item_again}

abbrev one : List ℕ → List (List ℕ) → List Decl → List Statement → Bool → Draft
one n ds es ss e = record { name = n; dummies = ds; declarations = es; statements = ss; ended = e }

pub declaration_items : (n : List ℕ) (dd : List (List ℕ)) (es fs : List Decl) (ss : List Statement) (e : Bool) (d : Decl) → fs ≡ es ++ d ∷ [] → e ≡ false → ss ≡ [] → draft_items (one n dd fs ss e) ≡ draft_items (one n dd es ss e) ++ Declaration d ∷ []
unfolding draft_items
declaration_items n dd es fs ss e d q h k = let front = map Declaration es in
    rw (q, h, k, map_push Declaration es d)
    (ap (λ (z : List Item). Head n dd ∷ z) (append-nil (front ++ Declaration d ∷ [] ++ []) ∙ append-nil (front ++ Declaration d ∷ []) ∙ sym (ap (λ (z : List Item). z ++ Declaration d ∷ []) (append-nil (front ++ []) ∙ append-nil front))))

pub executable_items : (n : List ℕ) (dd : List (List ℕ)) (es : List Decl) (ss ts : List Statement) (e : Bool) (s : Statement) → ts ≡ ss ++ s ∷ [] → e ≡ false → draft_items (one n dd es ts e) ≡ draft_items (one n dd es ss e) ++ Executable s ∷ []
unfolding draft_items
executable_items n dd es ss ts e s q h = let front = map Declaration es in
    let middle = map Executable ss in
    rw (q, h, map_push Executable ss s)
    (ap (λ (z : List Item). Head n dd ∷ z) (append-nil (front ++ (middle ++ Executable s ∷ [])) ∙ sym (append_assoc front middle (Executable s ∷ [])) ∙ ap (λ (z : List Item). z ++ Executable s ∷ []) (sym (append-nil (front ++ middle)))))

pub end_items : (n : List ℕ) (dd : List (List ℕ)) (es : List Decl) (ss : List Statement) (e : Bool) → e ≡ false → draft_items (one n dd es ss true) ≡ draft_items (one n dd es ss e) ++ End ∷ []
unfolding draft_items
end_items n dd es ss e h = rw h (ap (λ (z : List Item). Head n dd ∷ (z ++ End ∷ [])) (sym (append-nil (map Declaration es ++ map Executable ss))))

-- what the items of a draft keep
pub record DraftKept (d : Draft) : Type 0 where
  pub named : is_fortran_name d.name ≡ true
  pub dummies_named : list_all is_fortran_name d.dummies ≡ true
  pub some_dummy : 1 ≤ length d.dummies
  pub few_dummies : length d.dummies ≤ 18
  pub declared : list_all is_declaration d.declarations ≡ true
  pub stated : list_all is_statement d.statements ≡ true
  pub fits : list_all fits_statement d.statements ≡ true

both_parts : {X : Type 0} (p q : X → Bool) (xs : List X) → list_all (λ x. p x && q x) xs ≡ true → (list_all p xs ≡ true) × (list_all q xs ≡ true)
both_parts p q [] h = (refl, refl)
both_parts p q (x ∷ xs) h =
    let a = and_parts (p x && q x) (list_all (λ y. p y && q y) xs) h in
    let b = and_parts (p x) (q x) a.0 in
    let c = both_parts p q xs a.1 in
    (rw (b.0, c.0) refl, rw (b.1, c.1) refl)

pub draft_kept : (d : Draft) → list_all is_item (draft_items d) ≡ true → DraftKept d
unfolding draft_items is_item
draft_kept d h =
    let front = Head d.name d.dummies ∷ map Declaration d.declarations in
    let tail : List Item = if d.ended then End ∷ [] else [] in
    let a = and_parts (list_all is_item (front ++ map Executable d.statements)) (list_all is_item tail) (sym (list_all-append is_item (front ++ map Executable d.statements) tail) ∙ h) in
    let b = and_parts (list_all is_item front) (list_all is_item (map Executable d.statements)) (sym (list_all-append is_item front (map Executable d.statements)) ∙ a.0) in
    let e = and_parts (is_item (Head d.name d.dummies)) (list_all is_item (map Declaration d.declarations)) b.0 in
    let f = and_parts (is_fortran_name d.name) (list_all is_fortran_name d.dummies && is_between 1 18 (length d.dummies)) e.0 in
    let g = and_parts (list_all is_fortran_name d.dummies) (is_between 1 18 (length d.dummies)) f.1 in
    let k = and_parts (nat_le 1 (length d.dummies)) (nat_le (length d.dummies) 18) g.1 in
    let s = both_parts is_statement fits_statement d.statements (sym (list_all-map is_item Executable d.statements) ∙ b.1) in
    record {
      named = f.0;
      dummies_named = g.0;
      some_dummy = leb-true 1 (length d.dummies) k.0;
      few_dummies = leb-true (length d.dummies) 18 k.1;
      declared = sym (list_all-map is_item Declaration d.declarations) ∙ e.1;
      stated = s.0;
      fits = s.1;
    }

bytes_same : (xs : List ℕ) → bytes_eq xs xs ≡ true
bytes_same [] = refl
bytes_same (b ∷ bs) = rw (eq-eqb b b refl, bytes_same bs) refl

-- where the item that the words may spell has another text, or isn't kept, the bytes are no item's text
pub none_spelled : (bytes : List ℕ) (item : Item) → item ≡ guessed (words bytes) → (is_item item && bytes_eq (item_text item) bytes) ≡ false → SpellsNone bytes
none_spelled bytes item g h = λ other k e.
    let same : item ≡ other = g ∙ ap (λ (t : List ℕ). guessed (words t)) e ∙ item_again other k in
    let t : is_item item ≡ true = ap is_item same ∙ k in
    let u : bytes_eq (item_text item) bytes ≡ true = ap (λ (z : Item). bytes_eq (item_text z) bytes) same ∙ ap (bytes_eq (item_text other)) e ∙ bytes_same (item_text other) in
    both_ways (is_item item && bytes_eq (item_text item) bytes) h (and_from (is_item item) (bytes_eq (item_text item) bytes) t u)
