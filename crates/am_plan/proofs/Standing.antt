-- What the operands of terms stand for.
use Rattle.std.proofs.Common.{◌≡◌, ◌∙◌, ◌⊎◌, inl, inr, ◌++◌, ◌&&◌, ℕ, zero, suc, Bool, true, false, refl, sym, ap, subst, List, [], ◌∷◌, Option, Some, None, cond, map, find, option_map, slice_get, slice_index_or, is_some, true≢false, if◌then◌else◌}
use Rattle.std.specs.List.{AllByRecursion}
use Rattle.std.proofs.lemmas.Bool.Decides.{Decides-int_eq}
use Rattle.am_term.specs.declared.id.SortId.{SortId}
use Rattle.am_term.specs.declared.id.SymId.{SymId}
use Rattle.am_term.specs.declared.kind.SymKind.TheVariants as kind
use Rattle.am_term.specs.declared.symbol.Symbol.{Symbol}
use Rattle.am_term.specs.declared.term.Term.{Term}
use Rattle.am_term.specs.declared.term.Term.TheVariants.{In, App, outs-In, outs-App}
use Rattle.am_term.specs.Sorts.{fits}
use Rattle.am_term.specs.Sorting.{fits_place, fit_places, result_at, sort_of, sorts_of, sort_of-App, term_fits}
use Rattle.am_term.proofs.Forest.{fits-akin, akin-sym, akin-trans}
use Rattle.am_term.proofs.Tests.{and_left, and_right, and_both}
use Rattle.am_theory.specs.declared.theory.LitValue.{LitValue}
use Rattle.am_theory.specs.declared.theory.LitValue.TheVariants as value
use Rattle.am_theory.specs.declared.theory.LiteralDecl.{LiteralDecl}
use Rattle.am_theory.specs.declared.theory.Theory.{Theory}
use Rattle.am_theory.specs.Lookups.{literal_declared, result_of, result_sort}
use Rattle.am_theory.specs.Facts.{WellFormed, Stands as SymbolStands, IsLiteral}
use Rattle.am_theory.specs.Faults.{same_value}
use Rattle.am_diagram.specs.declared.diagram.Diagram.{Diagram}
use Rattle.am_diagram.specs.Listed.{entry_names}
use Rattle.am_fortran.specs.declared.statement.Operand.{Operand}
use Rattle.am_fortran.specs.declared.statement.Operand.TheVariants as operand
use Rattle.am_exec.specs.Literals.{writes, sort_fits, literal_written}
use Rattle.am_exec.specs.States.{Store, term_held, literal_term, operand_term, listed_term, operand_terms}
use Rattle.am_exec.specs.Effects.{term_sort}
use Rattle.am_exec.specs.ItemFaults.{unset_name, or_later, first_unset, operand_fits_place, fit_operands}
use Rattle.am_exec.proofs.Held.{eq_same}
use Rattle.am_plan.specs.Names.{Named, name_of_term}
use Rattle.am_plan.specs.Plan.{written_value, literal_or, operand_at, operand_for}
use Rattle.am_plan.proofs.Membership.{Among, Different}
use Rattle.am_plan.proofs.Holding.{names_in, held-there}

-- the first that passes
pub record FirstPassing {A : Type 0} (p : A → Bool) (xs : List A) : Type 0 where
  pub index : ℕ
  pub member : A
  pub there : slice_get xs index ≡ Some member
  pub passes : p member ≡ true
  pub found : find p xs ≡ Some member

pub first-passing : {A : Type 0} (p : A → Bool) (xs : List A) (i : ℕ) (x : A) → slice_get xs i ≡ Some x → p x ≡ true → FirstPassing p xs
first-passing {A = A} p [] i x at e = absurd cc
first-passing {A = A} p (z ∷ zs) zero x at e =
    let same : z ≡ x = cc in
    let passes : p z ≡ true = ap p same ∙ e in
    record { index = 0; member = z; there = refl; passes = passes; found = ap (λ (c : Bool). cond c (Some z) (find p zs)) passes }
first-passing {A = A} p (z ∷ zs) (suc i) x at e = by_test (p z) refl (first-passing p zs i x at e)
  where
    by_test : (b : Bool) → p z ≡ b → FirstPassing p zs → FirstPassing p (z ∷ zs)
    by_test true is r = record { index = 0; member = z; there = refl; passes = is; found = ap (λ (c : Bool). cond c (Some z) (find p zs)) is }
    by_test false is r = record { index = suc r.index; member = r.member; there = r.there; passes = r.passes; found = ap (λ (c : Bool). cond c (Some z) (find p zs)) is ∙ r.found }

pub all-index : {A : Type 0} (P : A → Type 0) (xs : List A) (i : ℕ) (x : A) → AllByRecursion P xs → slice_get xs i ≡ Some x → P x
all-index {A = A} P [] i x h at = absurd cc
all-index {A = A} P (z ∷ zs) zero x h at = let same : z ≡ x = cc in subst P same h.0
all-index {A = A} P (z ∷ zs) (suc i) x h at = all-index P zs i x h.1 at

-- a literal's operand writes its value
writes-written : (v w : LitValue) → writes (written_value v) w ≡ same_value v w
writes-written (value.Int y) (value.Int z) = refl
writes-written (value.Int y) (value.Text z) = refl
writes-written (value.Text y) (value.Int z) = refl
writes-written (value.Text y) (value.Text z) = refl

same-value : (v : LitValue) → same_value v v ≡ true
same-value (value.Int z) = (Decides-int_eq z z).1 refl
same-value (value.Text x) = eq_same x

-- the name that holds the term
pub record ByName (store : Store) (o : Operand) (x : Term) : Type 0 where
  pub named : List ℕ
  pub is : o ≡ operand.Name named
  pub held : term_held store named ≡ Some x

-- the literal whose symbol the term is
pub record ByLiteral (t : Theory) (o : Operand) (x : Term) : Type 0 where
  pub decl : LiteralDecl
  pub index : ℕ
  pub there : slice_get t.literals index ≡ Some decl
  pub is : o ≡ written_value decl.value
  pub constant : x ≡ App decl.symbol []

abbrev pub StandsFor : Theory → Store → Operand → Term → Type 0
StandsFor t store o x = ByName store o x ⊎ ByLiteral t o x

-- a symbol at arguments that fit its places
pub applied-sorted : (t : Theory) (ins : List SortId) (f : SymId) (xs : List Term) (y : Symbol) → slice_get t.sig.symbols f.0 ≡ Some y → fit_places t.sig (sorts_of t.sig ins xs) y.args ≡ true → sort_of t.sig ins (App f xs) ≡ y.result
applied-sorted t ins f xs y at e =
    sort_of-App t.sig ins f xs
    ∙ ap (λ (o : Option Symbol). result_at t.sig o (sorts_of t.sig ins xs)) at
    ∙ ap (λ (b : Bool). if b then y.result else None) e

module _ (t : Theory) (h : WellFormed t) (ins : List SortId) where
  pub literal-sorted : (l : LiteralDecl) (s : SymbolStands t l.symbol kind.Literal []) → sort_of t.sig ins (App l.symbol []) ≡ Some s.sort
  literal-sorted l s = applied-sorted t ins l.symbol [] s.symbol s.there (ap (fit_places t.sig []) s.with_args) ∙ s.result

  given : (l : LiteralDecl) (s : SymbolStands t l.symbol kind.Literal []) → result_sort t.sig l.symbol ≡ Some s.sort
  given l s = ap result_of s.there ∙ s.result

  found-symbol : (p : LiteralDecl → Bool) (l m : LiteralDecl) → find p t.literals ≡ Some m → l ≡ m → option_map (λ (x : LiteralDecl). x.symbol) (find p t.literals) ≡ Some l.symbol
  found-symbol p l m e is = ap (option_map (λ (x : LiteralDecl). x.symbol)) e ∙ ap (λ (x : LiteralDecl). Some x.symbol) (sym is)

  -- the value of a literal stands for its symbol wherever the symbol fits
  pub literal-at : (index : ℕ) (l : LiteralDecl) (place : SortId) → slice_get t.literals index ≡ Some l → term_fits t.sig ins (App l.symbol []) place ≡ true → literal_written t place (written_value l.value) ≡ Some l.symbol
  literal-at index l place at e =
      let stands = (all-index (IsLiteral t) t.literals index l h.literals at).stands in
      let fit : fits t.sig stands.sort place ≡ true = sym (ap (λ (s : Option SortId). fits_place t.sig s place) (literal-sorted l stands)) ∙ e in
      let first = first-passing (λ (m : LiteralDecl). writes (written_value l.value) m.value && sort_fits t (result_sort t.sig m.symbol) place) t.literals index l at
      (and_both (writes (written_value l.value) l.value) (sort_fits t (result_sort t.sig l.symbol) place)
      (writes-written l.value l.value ∙ same-value l.value)
      (ap (λ (s : Option SortId). sort_fits t s place) (given l stands) ∙ fit)) in
      let m = first.member in
      let others = (all-index (IsLiteral t) t.literals first.index m h.literals first.there).stands in
      let other_fit : fits t.sig others.sort place ≡ true = sym (ap (λ (s : Option SortId). sort_fits t s place) (given m others)) ∙ and_right (writes (written_value l.value) m.value) (sort_fits t (result_sort t.sig m.symbol) place) first.passes in
      let near = akin-trans t.sig stands.sort place others.sort (fits-akin t.sig stands.sort place fit) (akin-sym t.sig others.sort place (fits-akin t.sig others.sort place other_fit)) in
      let one : index ≡ first.index = h.one_literal index first.index l m at first.there stands others (sym (writes-written l.value m.value) ∙ and_left (writes (written_value l.value) m.value) (sort_fits t (result_sort t.sig m.symbol) place) first.passes) near in
      let same : Some l ≡ Some m = sym at ∙ ap (slice_get t.literals) one ∙ first.there in
      let is : l ≡ m = cc in
      found-symbol (λ (n : LiteralDecl). writes (written_value l.value) n.value && sort_fits t (result_sort t.sig n.symbol) place) l m first.found is

  literal-set : (store : Store) (v : LitValue) → unset_name store (written_value v) ≡ None
  literal-set store (value.Int z) = refl
  literal-set store (value.Text x) = refl

  literal-fits : (store : Store) (v : LitValue) (place : SortId) (f : SymId) → literal_written t place (written_value v) ≡ Some f → operand_fits_place t ins store place (written_value v) ≡ true
  literal-fits store (value.Int z) place f e = ap is_some e
  literal-fits store (value.Text x) place f e = ap is_some e

  literal-stands : (store : Store) (v : LitValue) (place : SortId) (f : SymId) → literal_written t place (written_value v) ≡ Some f → operand_term t store place (written_value v) ≡ Some (App f [])
  literal-stands store (value.Int z) place f e = ap (option_map literal_term) e
  literal-stands store (value.Text x) place f e = ap (option_map literal_term) e

  module _ (store : Store) where
    pub operand-set : (o : Operand) (x : Term) → StandsFor t store o x → unset_name store o ≡ None
    operand-set o x (inl n) = ap (unset_name store) n.is ∙ ap (λ (y : Option Term). if is_some y then None else Some n.named) n.held
    operand-set o x (inr l) = ap (unset_name store) l.is ∙ literal-set store l.decl.value

    pub operand-fits : (o : Operand) (x : Term) (place : SortId) → StandsFor t store o x → term_fits t.sig ins x place ≡ true → operand_fits_place t ins store place o ≡ true
    operand-fits o x place (inl n) e = ap (operand_fits_place t ins store place) n.is ∙ ap (λ (y : Option Term). fits_place t.sig (term_sort t ins y) place) n.held ∙ e
    operand-fits o x place (inr l) e = ap (operand_fits_place t ins store place) l.is ∙ literal-fits store l.decl.value place l.decl.symbol (literal-at l.index l.decl place l.there (sym (ap (λ (y : Term). term_fits t.sig ins y place) l.constant) ∙ e))

    pub operand-term : (o : Operand) (x : Term) (place : SortId) → StandsFor t store o x → term_fits t.sig ins x place ≡ true → operand_term t store place o ≡ Some x
    operand-term o x place (inl n) e = ap (operand_term t store place) n.is ∙ n.held
    operand-term o x place (inr l) e = ap (operand_term t store place) l.is ∙ literal-stands store l.decl.value place l.decl.symbol (literal-at l.index l.decl place l.there (sym (ap (λ (y : Term). term_fits t.sig ins y place) l.constant) ∙ e)) ∙ ap Some (sym l.constant)

    -- operands of a list of terms
    module _ (op : Term → Operand) where
      pub operands-set : (xs : List Term) → AllByRecursion (λ (x : Term). StandsFor t store (op x) x) xs → first_unset store (map op xs) ≡ None
      operands-set [] g = refl
      operands-set (x ∷ xs) g = ap (λ (n : Option (List ℕ)). or_later n (first_unset store (map op xs))) (operand-set (op x) x g.0) ∙ operands-set xs g.1

      pub operands-fit : (xs : List Term) (ss : List SortId) → AllByRecursion (λ (x : Term). StandsFor t store (op x) x) xs → fit_places t.sig (sorts_of t.sig ins xs) ss ≡ true → fit_operands t ins store ss (map op xs) ≡ true
      operands-fit [] [] g e = refl
      operands-fit [] (s ∷ ss) g e = absurd (true≢false (sym e))
      operands-fit (x ∷ xs) [] g e = absurd (true≢false (sym e))
      operands-fit (x ∷ xs) (s ∷ ss) g e =
          let one = term_fits t.sig ins x s in
          let rest = fit_places t.sig (sorts_of t.sig ins xs) ss in
          and_both (operand_fits_place t ins store s (op x)) (fit_operands t ins store ss (map op xs)) (operand-fits (op x) x s g.0 (and_left one rest e)) (operands-fit xs ss g.1 (and_right one rest e))

      pub operands-are : (xs : List Term) (ss : List SortId) → AllByRecursion (λ (x : Term). StandsFor t store (op x) x) xs → fit_places t.sig (sorts_of t.sig ins xs) ss ≡ true → operand_terms t store ss (map op xs) ≡ xs
      operands-are [] [] g e = refl
      operands-are [] (s ∷ ss) g e = absurd (true≢false (sym e))
      operands-are (x ∷ xs) [] g e = absurd (true≢false (sym e))
      operands-are (x ∷ xs) (s ∷ ss) g e =
          let one = term_fits t.sig ins x s in
          let rest = fit_places t.sig (sorts_of t.sig ins xs) ss in
          ap (λ (y : Option Term). listed_term y ++ operand_terms t store ss (map op xs)) (operand-term (op x) x s g.0 (and_left one rest e))
          ∙ ap (λ (ys : List Term). x ∷ ys) (operands-are xs ss g.1 (and_right one rest e))

-- ---- which terms have an operand

pub record IsInput (d : Diagram) (x : Term) : Type 0 where
  pub index : ℕ
  pub entry : List ℕ × SortId
  pub there : slice_get d.inputs index ≡ Some entry
  pub is : x ≡ In index

pub record IsConstant (t : Theory) (x : Term) : Type 0 where
  pub decl : LiteralDecl
  pub index : ℕ
  pub there : slice_get t.literals index ≡ Some decl
  pub found : literal_declared t decl.symbol ≡ Some decl
  pub is : x ≡ App decl.symbol []

-- made by a call: one of the terms that are done
pub record IsDone (t : Theory) (done : List Term) (x : Term) : Type 0 where
  pub symbol : SymId
  pub args : List Term
  pub is : x ≡ App symbol args
  pub no_literal : literal_declared t symbol ≡ None
  pub there : Among x done

abbrev pub Available : Theory → Diagram → List Term → Term → Type 0
Available t d done x = IsInput d x ⊎ (IsConstant t x ⊎ IsDone t done x)

name-at : (ds : List (List ℕ × SortId)) (k : ℕ) (e : List ℕ × SortId) → slice_get ds k ≡ Some e → slice_index_or (entry_names ds) k [] ≡ e.0
name-at [] k e at = absurd cc
name-at (x ∷ ds) zero e at = let same : x ≡ e = cc in ap (λ (q : List ℕ × SortId). q.0) same
name-at (x ∷ ds) (suc k) e at = name-at ds k e at

module _ (t : Theory) (d : Diagram) (names : List Named) where
  pub operand-input : (k : ℕ) (e : List ℕ × SortId) → slice_get d.inputs k ≡ Some e → operand_for t d names (In k) ≡ operand.Name e.0
  unfolding operand_for
  operand-input k e at = ap (operand_at t d names (In k)) (outs-In k) ∙ ap operand.Name (name-at d.inputs k e at)

  pub operand-app : (f : SymId) (args : List Term) → operand_for t d names (App f args) ≡ literal_or (operand.Name (name_of_term names (App f args))) (literal_declared t f)
  unfolding operand_for
  operand-app f args = ap (operand_at t d names (App f args)) (outs-App f args)

  -- an available term's operand stands for it, where the store has the inputs and the terms that are done
  pub operand-stands : (store : Store) (done : List Term) (x : Term) → Different (names_in store)
      → ((k : ℕ) (e : List ℕ × SortId) → slice_get d.inputs k ≡ Some e → Among (e.0, In k) store)
      → ((y : Term) → Among y done → Among (name_of_term names y, y) store)
      → Available t d done x → StandsFor t store (operand_for t d names x) x
  operand-stands store done x differ has_inputs has_done (inl i) =
      inl (record { named = i.entry.0; is = ap (operand_for t d names) i.is ∙ operand-input i.index i.entry i.there; held = held-there store i.entry.0 (In i.index) differ (has_inputs i.index i.entry i.there) ∙ ap Some (sym i.is) })
  operand-stands store done x differ has_inputs has_done (inr (inl c)) =
      inr (record { decl = c.decl; index = c.index; there = c.there; is = ap (operand_for t d names) c.is ∙ operand-app c.decl.symbol [] ∙ ap (literal_or (operand.Name (name_of_term names (App c.decl.symbol [])))) c.found; constant = c.is })
  operand-stands store done x differ has_inputs has_done (inr (inr m)) =
      inl (record { named = name_of_term names x; is = ap (operand_for t d names) m.is ∙ operand-app m.symbol m.args ∙ ap (literal_or (operand.Name (name_of_term names (App m.symbol m.args)))) m.no_literal ∙ ap (λ (y : Term). operand.Name (name_of_term names y)) (sym m.is); held = held-there store (name_of_term names x) x differ (has_done x m.there) })
