-- What a name alone stands for, but for its number: this decides all flaws.
use Rattle.std.proofs.Common.{◌≡◌, ◌∙◌, ℕ, Bool, true, false, refl, ap, List, [], ◌∷◌, ◌++◌, Option, Some, None}
use Rattle.std.specs.Prelude.{◌+◌, length, is_none, if◌then◌else◌}
use Rattle.std.specs.Str.{bytes_eq}
use Rattle.am_term.specs.declared.id.SortId.{SortId}
use Rattle.am_term.specs.NameLists.{is_among}
use Rattle.am_syntax.specs.declared.scope.Bound.{Bound}
use Rattle.am_syntax.specs.declared.scope.Standing.{Standing}
use Rattle.am_syntax.specs.declared.scope.Standing.TheVariants.{Variable, Input, Barred}
use Rattle.am_syntax.specs.Scopes.{Scope, Profile, standing_of, symbol_of, result_of, standing_sort, alone_sort_by}
use Rattle.am_syntax.specs.Flaws.{is_relation, is_lone_relation, is_miscounted, is_lone_function, is_unbound}
use Rattle.am_syntax.proofs.Among.{none_left, none_right}
use Rattle.am_theory.specs.declared.theory.Theory.{Theory}
use Rattle.am_diagram.specs.declared.draft.Draft.{Draft}
use Rattle.am_diagram.specs.Listed.{entry_names}
use Rattle.am_diagram.specs.Drafts.{inputs_from, bound_variables_from, barred, requirement_scope, given_scope}

-- the sort of what a name stands for beside a symbol; no sort where it may not stand there
abbrev pub View : Type 0
View = Option (Option SortId)

abbrev pub view : Option Standing → View
view None = None
view (Some x) = Some (standing_sort x)

-- ---- flaws by views
abbrev pub unbound_by : View → Option Profile → Bool
unbound_by None y = is_none y
unbound_by (Some None) y = true
unbound_by (Some (Some s)) y = false

pub unbound-view : (o : Option Standing) (y : Option Profile) → is_unbound o y ≡ unbound_by (view o) y
unbound-view None y = refl
unbound-view (Some (Variable n s)) y = refl
unbound-view (Some (Input k s)) y = refl
unbound-view (Some Barred) y = refl

-- what is tested of a symbol alone, where the name stands for nothing else
abbrev pub lone_by : View → Bool → Bool
lone_by None b = b
lone_by (Some x) b = false

pub lone_relation-view : (s : Scope) (o : Option Standing) (w : List ℕ) → is_lone_relation s o w ≡ lone_by (view o) (is_relation (symbol_of s w))
lone_relation-view s None w = refl
lone_relation-view s (Some x) w = refl

pub lone_function-view : (s : Scope) (o : Option Standing) (w : List ℕ) → is_lone_function s o w ≡ lone_by (view o) (is_miscounted (symbol_of s w) 0)
lone_function-view s None w = refl
lone_function-view s (Some x) w = refl

abbrev pub sort_by : View → Option Profile → Option SortId
sort_by None y = result_of y
sort_by (Some x) y = x

pub sort-view : (o : Option Standing) (y : Option Profile) → alone_sort_by o y ≡ sort_by (view o) y
sort-view None y = refl
sort-view (Some x) y = refl

-- ---- views of what a draft declares
abbrev pub Entry : Type 0
Entry = List ℕ × SortId

abbrev pub shown : SortId → Option SortId
shown s = Some s

abbrev pub hidden : SortId → Option SortId
hidden s = None

abbrev pub look : (SortId → Option SortId) → List ℕ → List Entry → View
look g w [] = None
look g w (e ∷ es) = if bytes_eq w e.0 then Some (g e.1) else look g w es

abbrev pub or_view : View → View → View
or_view None v = v
or_view (Some x) v = Some x

append_by : (b : Bool) (x : Standing) (o p : Option Standing) (v : View) → view o ≡ or_view (view p) v → view (if b then Some x else o) ≡ or_view (view (if b then Some x else p)) v
append_by true x o p v h = refl
append_by false x o p v h = h

view-append : (w : List ℕ) (xs ys : List Bound) → view (standing_of w (xs ++ ys)) ≡ or_view (view (standing_of w xs)) (view (standing_of w ys))
view-append w [] ys = refl
view-append w (b ∷ xs) ys = append_by (bytes_eq w b.name) b.standing (standing_of w (xs ++ ys)) (standing_of w xs) (view (standing_of w ys)) (view-append w xs ys)

look_by : (b : Bool) (x : Standing) (o : Option Standing) (u : Option SortId) (v : View) → standing_sort x ≡ u → view o ≡ v → view (if b then Some x else o) ≡ (if b then Some u else v)
look_by true x o u v e h = ap (λ s. Some s) e
look_by false x o u v e h = h

view-inputs : (w : List ℕ) (k : ℕ) (es : List Entry) → view (standing_of w (inputs_from k es)) ≡ look shown w es
view-inputs w k [] = refl
view-inputs w k (e ∷ es) = look_by (bytes_eq w e.0) (Input k e.1) (standing_of w (inputs_from (k + 1) es)) (Some e.1) (look shown w es) refl (view-inputs w (k + 1) es)

view-variables : (w : List ℕ) (n : ℕ) (es : List Entry) → view (standing_of w (bound_variables_from n es)) ≡ look shown w es
view-variables w n [] = refl
view-variables w n (e ∷ es) = look_by (bytes_eq w e.0) (Variable n e.1) (standing_of w (bound_variables_from (n + 1) es)) (Some e.1) (look shown w es) refl (view-variables w (n + 1) es)

view-barred : (w : List ℕ) (es : List Entry) → view (standing_of w (barred es)) ≡ look hidden w es
view-barred w [] = refl
view-barred w (e ∷ es) = look_by (bytes_eq w e.0) Barred (standing_of w (barred es)) None (look hidden w es) refl (view-barred w es)

-- inputs, and behind them objects and outputs
abbrev pub stands : (SortId → Option SortId) → List ℕ → List Entry → List Entry → List Entry → View
stands g w inputs objects outputs = or_view (or_view (look shown w inputs) (look g w objects)) (look g w outputs)

view-three : (w : List ℕ) (xs ys zs : List Bound) (a b c : View) → view (standing_of w xs) ≡ a → view (standing_of w ys) ≡ b → view (standing_of w zs) ≡ c → view (standing_of w (xs ++ ys ++ zs)) ≡ or_view (or_view a b) c
view-three w xs ys zs a b c e f h =
    view-append w (xs ++ ys) zs
    ∙ ap (λ v. or_view v (view (standing_of w zs))) (view-append w xs ys)
    ∙ ap (λ v. or_view (or_view v (view (standing_of w ys))) (view (standing_of w zs))) e
    ∙ ap (λ v. or_view (or_view a v) (view (standing_of w zs))) f
    ∙ ap (λ v. or_view (or_view a b) v) h

pub view-required : (t : Theory) (d : Draft) (w : List ℕ) → view (standing_of w (requirement_scope t d).bound) ≡ stands shown w d.inputs d.objects d.outputs
view-required t d w =
    view-three w (inputs_from 0 d.inputs) (bound_variables_from 0 d.objects) (bound_variables_from (length d.objects) d.outputs) (look shown w d.inputs) (look shown w d.objects) (look shown w d.outputs)
    (view-inputs w 0 d.inputs) (view-variables w 0 d.objects) (view-variables w (length d.objects) d.outputs)

pub view-given : (t : Theory) (d : Draft) (w : List ℕ) → view (standing_of w (given_scope t d).bound) ≡ stands hidden w d.inputs d.objects d.outputs
view-given t d w =
    view-three w (inputs_from 0 d.inputs) (barred d.objects) (barred d.outputs) (look shown w d.inputs) (look hidden w d.objects) (look hidden w d.outputs)
    (view-inputs w 0 d.inputs) (view-barred w d.objects) (view-barred w d.outputs)

-- ---- one more name
pub look-push : (g : SortId → Option SortId) (w : List ℕ) (es : List Entry) (x : Entry) → bytes_eq w x.0 ≡ false → look g w (es ++ x ∷ []) ≡ look g w es
look-push g w [] x e = ap (λ b. if b then Some (g x.1) else None) e
look-push g w (y ∷ es) x e = ap (λ v. if bytes_eq w y.0 then Some (g y.1) else v) (look-push g w es x e)

pub look-none : (g : SortId → Option SortId) (n : List ℕ) (es : List Entry) → is_among n (entry_names es) ≡ false → look g n es ≡ None
look-none g n [] e = refl
look-none g n (x ∷ es) e =
    ap (λ b. if b then Some (g x.1) else look g n es) (none_left (bytes_eq n x.0) (is_among n (entry_names es)) e)
    ∙ look-none g n es (none_right (bytes_eq n x.0) (is_among n (entry_names es)) e)

pub stands-none : (g : SortId → Option SortId) (n : List ℕ) (inputs objects outputs : List Entry) → is_among n (entry_names inputs) ≡ false → is_among n (entry_names objects) ≡ false → is_among n (entry_names outputs) ≡ false → stands g n inputs objects outputs ≡ None
stands-none g n inputs objects outputs e f h =
    ap (λ v. or_view (or_view v (look g n objects)) (look g n outputs)) (look-none shown n inputs e)
    ∙ ap (λ v. or_view v (look g n outputs)) (look-none g n objects f)
    ∙ look-none g n outputs h
