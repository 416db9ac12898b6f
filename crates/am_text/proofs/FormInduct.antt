use Rattle.std.proofs.Common.{◌≡◌, ℕ, List, [], ◌∷◌, map, sym, subst}
use Rattle.std.specs.Prelude.{ℤ}
use denote.Hole.Holds.{Such}
use Rattle.am_text.specs.declared.form.Form.{Form}
use Rattle.am_text.specs.declared.form.FormNode.{FormNode}
use Rattle.am_text.specs.declared.form.FormNode.TheBlock.{the_family, member-Form, member-FormNode}
use Rattle.am_text.specs.declared.form.FormNode.TheVariants.{Word, Number, Text, List as ListOf, rolls-Word, rolls-Number, rolls-Text, rolls-List}
use Rattle.am_text.specs.declared.form.FormNode.TheFolds.{claims, map-FormNode, map-Form, ind-FormNode, ind-Form}
use Rattle.am_text.specs.declared.form.FormNode.TheOpen.{FormNode-F, Form-F}
use Rattle.am_text.specs.declared.form.FormNode.TheViews.{roll-Form, roll-FormNode}

module _ (P : FormNode → Type 0) (P' : Form → Type 0) (Q : List Form → Type 0)
    (word : (w : List ℕ) → P (Word w)) (number : (n : ℤ) → P (Number n)) (text : (t : List ℕ) → P (Text t))
    (list : (fs : List Form) → Q fs → P (ListOf fs)) (form : (p : ℕ) (n : FormNode) → P n → P' (record { place = p; node = n }))
    (none : Q []) (more : (f : Form) (fs : List Form) → P' f → Q fs → Q (f ∷ fs)) where
  abbrev N : Type 0
  N = Such the_family (claims P P') member-FormNode

  abbrev F : Type 0
  F = Such the_family (claims P P') member-Form

  such_list : (es : List F) → Q (map (λ e. e.0) es)
  such_list [] = none
  such_list (e ∷ es) = more e.0 (map (λ d. d.0) es) e.1 (such_list es)

  node_step : (x : FormNode-F FormNode Form) (y : FormNode-F N F) → map-FormNode N F FormNode Form (λ e. e.0) (λ e. e.0) y ≡ x → P (roll-FormNode x)
  node_step x (FormNode-F.Word w) is = subst (λ z. P (roll-FormNode z)) is (subst P (sym (rolls-Word w)) (word w))
  node_step x (FormNode-F.Number n) is = subst (λ z. P (roll-FormNode z)) is (subst P (sym (rolls-Number n)) (number n))
  node_step x (FormNode-F.Text t) is = subst (λ z. P (roll-FormNode z)) is (subst P (sym (rolls-Text t)) (text t))
  node_step x (FormNode-F.List es) is = subst (λ z. P (roll-FormNode z)) is (subst P (sym (rolls-List (map (λ e. e.0) es))) (list (map (λ e. e.0) es) (such_list es)))

  form_step : (x : Form-F FormNode Form) (y : Form-F N F) → map-Form N F FormNode Form (λ e. e.0) (λ e. e.0) y ≡ x → P' (roll-Form x)
  form_step x y is = subst (λ z. P' (roll-Form z)) is (form y.place y.node.0 y.node.1)

  pub form_induct : (f : Form) → P' f
  form_induct = ind-Form P P' node_step form_step

  pub node_induct : (n : FormNode) → P n
  node_induct = ind-FormNode P P' node_step form_step
