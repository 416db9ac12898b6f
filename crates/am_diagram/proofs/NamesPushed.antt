-- One more name among those of a diagram: all still differ, and the names alone that may stand in literals stand
-- for the same, but for the numbers.
use Rattle.std.proofs.Common.{◌≡◌, ◌∙◌, ◌||◌, ℕ, Bool, true, false, refl, sym, ap, true≢false, List, [], ◌∷◌, ◌++◌, map, Option, Some, None, append_assoc}
use Rattle.std.specs.Prelude.{is_none, is_some}
use Rattle.std.specs.Str.{bytes_eq}
use Rattle.std.proofs.lemmas.List.{append-nil}
use Rattle.std.proofs.lemmas.List.Folds.{list_any-append}
use Rattle.am_term.specs.declared.id.SortId.{SortId}
use Rattle.am_term.specs.NameLists.{is_among, are_distinct}
use Rattle.am_syntax.specs.declared.scope.Bound.{Bound}
use Rattle.am_syntax.specs.Positions.{position_of}
use Rattle.am_syntax.specs.Scopes.{Profile, profile, standing_of, symbol_at, symbol_of}
use Rattle.am_syntax.proofs.Among.{none_left, none_right}
use Rattle.am_syntax.proofs.Positions.{position_among, same}
use Rattle.am_theory.specs.declared.theory.Theory.{Theory}
use Rattle.am_theory.proofs.Appends.{distinct-insert}
use Rattle.am_diagram.specs.declared.draft.Draft.{Draft}
use Rattle.am_diagram.specs.Listed.{entry_names}
use Rattle.am_diagram.specs.Drafts.{scope_with, requirement_scope, given_scope}
use Rattle.am_diagram.specs.Faults.{used_names}
use Rattle.am_diagram.proofs.FlawsMoved.{Keeps}
use Rattle.am_diagram.proofs.SoundDraft.{symbol_names}
use Rattle.am_diagram.proofs.StandingViews.{Entry, view, unbound_by, shown, hidden, look, or_view, stands, view-required, view-given, look-push, stands-none}

-- ---- a name that is no symbol's and not declared is unbound
none_by : (symbols : List Profile) (o : Option ℕ) → is_some o ≡ false → is_none (symbol_at symbols o) ≡ true
none_by symbols None e = refl
none_by symbols (Some k) e = absurd (true≢false e)

no-symbol : (t : Theory) (bs : List Bound) (n : List ℕ) → is_among n (symbol_names t) ≡ false → is_none (symbol_of (scope_with t bs) n) ≡ true
no-symbol t bs n e = none_by (map profile t.sig.symbols) (position_of n (symbol_names t)) (position_among n (symbol_names t) ∙ e)

-- ---- bounds among which one more name has come
module _ (t : Theory) (bs br : List Bound) (x : Entry) (apart : is_among x.0 (symbol_names t) ≡ false)
    (new : view (standing_of x.0 bs) ≡ None)
    (others : (w : List ℕ) → bytes_eq w x.0 ≡ false → view (standing_of w br) ≡ view (standing_of w bs)) where
  unbound-new : unbound_by (view (standing_of x.0 bs)) (symbol_of (scope_with t bs) x.0) ≡ true
  unbound-new = ap (λ v. unbound_by v (symbol_of (scope_with t bs) x.0)) new ∙ no-symbol t bs x.0 apart

  keeps_by : (b : Bool) (w : List ℕ) → bytes_eq w x.0 ≡ b → unbound_by (view (standing_of w bs)) (symbol_of (scope_with t bs) w) ≡ false → view (standing_of w br) ≡ view (standing_of w bs)
  keeps_by true w e u = absurd (true≢false (sym (ap (λ n. unbound_by (view (standing_of n bs)) (symbol_of (scope_with t bs) n)) (same w x.0 e) ∙ unbound-new) ∙ u))
  keeps_by false w e u = others w e

  pub keeps-new : Keeps t bs br
  keeps-new w u = keeps_by (bytes_eq w x.0) w refl u

-- ---- which names there are
pub names-push : (es : List Entry) (x : Entry) → entry_names (es ++ x ∷ []) ≡ entry_names es ++ x.0 ∷ []
names-push [] x = refl
names-push (e ∷ es) x = ap (λ ns. e.0 ∷ ns) (names-push es x)

-- a name that is not used is no input's, no object's and no output's
pub record IsUnused (d : Draft) (n : List ℕ) : Type 0 where
  pub used : is_among n (used_names d) ≡ false
  pub inputs : is_among n (entry_names d.inputs) ≡ false
  pub objects : is_among n (entry_names d.objects) ≡ false
  pub outputs : is_among n (entry_names d.outputs) ≡ false

pub unused : (d : Draft) (n : List ℕ) → is_among n (used_names d) ≡ false → IsUnused d n
unused d n e =
    let is = entry_names d.inputs in
    let os = entry_names d.objects in
    let us = entry_names d.outputs in
    let all = none_right (bytes_eq n d.name) (is_among n (is ++ os ++ us)) e in
    let split : (is_among n (is ++ os) || is_among n us) ≡ false = sym (list_any-append (bytes_eq n) (is ++ os) us) ∙ all in
    let front : (is_among n is || is_among n os) ≡ false = sym (list_any-append (bytes_eq n) is os) ∙ none_left (is_among n (is ++ os)) (is_among n us) split in
    record {
      used = e;
      inputs = none_left (is_among n is) (is_among n os) front;
      objects = none_right (is_among n is) (is_among n os) front;
      outputs = none_right (is_among n (is ++ os)) (is_among n us) split;
    }

-- ---- all names still differ
module _ (m n : List ℕ) (a b c : List (List ℕ)) (e : are_distinct (m ∷ (a ++ b ++ c)) ≡ true) (h : is_among n (m ∷ (a ++ b ++ c)) ≡ false) where
  pub distinct-first : are_distinct (m ∷ ((a ++ n ∷ []) ++ b ++ c)) ≡ true
  distinct-first =
      ap (λ ns. are_distinct (m ∷ ns)) (append_assoc (a ++ n ∷ []) b c)
      ∙ distinct-insert (m ∷ a) (b ++ c) n
      (ap (λ ns. are_distinct (m ∷ ns)) (sym (append_assoc a b c)) ∙ e)
      (ap (λ ns. is_among n (m ∷ ns)) (sym (append_assoc a b c)) ∙ h)

  pub distinct-second : are_distinct (m ∷ (a ++ (b ++ n ∷ []) ++ c)) ≡ true
  distinct-second = ap (λ ns. are_distinct (m ∷ (ns ++ c))) (sym (append_assoc a b (n ∷ []))) ∙ distinct-insert (m ∷ (a ++ b)) c n e h

  pub distinct-third : are_distinct (m ∷ (a ++ b ++ (c ++ n ∷ []))) ≡ true
  distinct-third =
      ap (λ ns. are_distinct (m ∷ ns)) (sym (append_assoc (a ++ b) c (n ∷ [])) ∙ sym (append-nil (a ++ b ++ c ++ n ∷ [])))
      ∙ distinct-insert (m ∷ (a ++ b ++ c)) [] n
      (ap (λ ns. are_distinct (m ∷ ns)) (append-nil (a ++ b ++ c)) ∙ e)
      (ap (λ ns. is_among n (m ∷ ns)) (append-nil (a ++ b ++ c)) ∙ h)

-- ---- the scopes of literals, as a declaration is added
abbrev with_input : Draft → Entry → Draft
with_input d x = record d { inputs = d.inputs ++ x ∷ [] }

abbrev with_object : Draft → Entry → Draft
with_object d x = record d { objects = d.objects ++ x ∷ [] }

abbrev with_output : Draft → Entry → Draft
with_output d x = record d { outputs = d.outputs ++ x ∷ [] }

module _ (t : Theory) (d : Draft) (x : Entry) (apart : is_among x.0 (symbol_names t) ≡ false) (k : IsUnused d x.0) where
  new-given : view (standing_of x.0 (given_scope t d).bound) ≡ None
  new-given = view-given t d x.0 ∙ stands-none hidden x.0 d.inputs d.objects d.outputs k.inputs k.objects k.outputs

  new-required : view (standing_of x.0 (requirement_scope t d).bound) ≡ None
  new-required = view-required t d x.0 ∙ stands-none shown x.0 d.inputs d.objects d.outputs k.inputs k.objects k.outputs

  input-stands : (g : SortId → Option SortId) (w : List ℕ) → bytes_eq w x.0 ≡ false → stands g w (d.inputs ++ x ∷ []) d.objects d.outputs ≡ stands g w d.inputs d.objects d.outputs
  input-stands g w e = ap (λ v. or_view (or_view v (look g w d.objects)) (look g w d.outputs)) (look-push shown w d.inputs x e)

  object-stands : (g : SortId → Option SortId) (w : List ℕ) → bytes_eq w x.0 ≡ false → stands g w d.inputs (d.objects ++ x ∷ []) d.outputs ≡ stands g w d.inputs d.objects d.outputs
  object-stands g w e = ap (λ v. or_view (or_view (look shown w d.inputs) v) (look g w d.outputs)) (look-push g w d.objects x e)

  output-stands : (g : SortId → Option SortId) (w : List ℕ) → bytes_eq w x.0 ≡ false → stands g w d.inputs d.objects (d.outputs ++ x ∷ []) ≡ stands g w d.inputs d.objects d.outputs
  output-stands g w e = ap (λ v. or_view (or_view (look shown w d.inputs) (look g w d.objects)) v) (look-push g w d.outputs x e)

  pub input-given : Keeps t (given_scope t d).bound (given_scope t (with_input d x)).bound
  input-given = keeps-new t (given_scope t d).bound (given_scope t (with_input d x)).bound x apart new-given
      (λ w e. view-given t (with_input d x) w ∙ input-stands hidden w e ∙ sym (view-given t d w))

  pub input-required : Keeps t (requirement_scope t d).bound (requirement_scope t (with_input d x)).bound
  input-required = keeps-new t (requirement_scope t d).bound (requirement_scope t (with_input d x)).bound x apart new-required
      (λ w e. view-required t (with_input d x) w ∙ input-stands shown w e ∙ sym (view-required t d w))

  pub object-given : Keeps t (given_scope t d).bound (given_scope t (with_object d x)).bound
  object-given = keeps-new t (given_scope t d).bound (given_scope t (with_object d x)).bound x apart new-given
      (λ w e. view-given t (with_object d x) w ∙ object-stands hidden w e ∙ sym (view-given t d w))

  pub object-required : Keeps t (requirement_scope t d).bound (requirement_scope t (with_object d x)).bound
  object-required = keeps-new t (requirement_scope t d).bound (requirement_scope t (with_object d x)).bound x apart new-required
      (λ w e. view-required t (with_object d x) w ∙ object-stands shown w e ∙ sym (view-required t d w))

  pub output-given : Keeps t (given_scope t d).bound (given_scope t (with_output d x)).bound
  output-given = keeps-new t (given_scope t d).bound (given_scope t (with_output d x)).bound x apart new-given
      (λ w e. view-given t (with_output d x) w ∙ output-stands hidden w e ∙ sym (view-given t d w))

  pub output-required : Keeps t (requirement_scope t d).bound (requirement_scope t (with_output d x)).bound
  output-required = keeps-new t (requirement_scope t d).bound (requirement_scope t (with_output d x)).bound x apart new-required
      (λ w e. view-required t (with_output d x) w ∙ output-stands shown w e ∙ sym (view-required t d w))
