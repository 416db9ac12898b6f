-- What holds at the start and is kept by each declaration without a fault, holds at the end of a file; and the
-- diagram that was read is that of the draft at the end.
use Rattle.std.proofs.Common.{◌≡◌, ℕ, Bool, true, false, List, [], ◌∷◌, Option, Some, None, Result, Ok, Err, refl, subst}
use Rattle.std.specs.Prelude.{length, codes, option_map, if◌then◌else◌}
use Rattle.std.specs.Str.{bytes_eq}
use Rattle.std.proofs.lemmas.Option.{same_Some}
use Rattle.am_text.specs.declared.form.Form.{Form}
use Rattle.am_text.specs.declared.fault.TextFault.{TextFault}
use Rattle.am_text.specs.Scan.{read}
use Rattle.am_syntax.specs.declared.written.Words.TheVariants.{Any}
use Rattle.am_syntax.specs.declared.written.WrittenLiteral.{WrittenLiteral}
use Rattle.am_syntax.specs.Shapes.{literal_of}
use Rattle.am_theory.specs.declared.theory.Theory.{Theory}
use Rattle.am_theory.specs.Declarations.{◌>>=◌ as ◌then◌, word_of, name_of, list_of}
use Rattle.am_theory.specs.Limits.{file_limit, depth_limit}
use Rattle.am_theory.proofs.OfForm.{First, first_of_two, name-is}
use Rattle.am_diagram.specs.declared.declaration.Declaration.{Declaration}
use Rattle.am_diagram.specs.declared.declaration.Declaration.TheVariants.{Input, Object, Output, Given, Require}
use Rattle.am_diagram.specs.declared.diagram.Diagram.{Diagram}
use Rattle.am_diagram.specs.declared.draft.Draft.{Draft}
use Rattle.am_diagram.specs.declared.fault.DiagramFault.{DiagramFault}
use Rattle.am_diagram.specs.declared.fault.DiagramKind.{DiagramKind}
use Rattle.am_diagram.specs.Declarations.{variable_decl, object_decl, given_decl, require_decl, decl_headed, decl_in, decl_of, diagram_name_of}
use Rattle.am_diagram.specs.Drafts.{started, with_decl, diagram_of}
use Rattle.am_diagram.specs.Faults.{first_kind, head_kind, end_kind}
use Rattle.am_diagram.specs.Reading.{◌>>=◌, unless, declared_by, declared, read_from, draft_of_head, ended, forms_diagram, text_diagram, diagram}
use Rattle.am_diagram.proofs.SoundDeclared.{IsNamed}

abbrev some : Declaration → Option Declaration
some e = Some e

-- ---- the declaration of a form
by_if : (b : Bool) (x y : Option Declaration) (z : Declaration) (G : Type 0) → (if b then x else y) ≡ some z → (x ≡ some z → G) → (y ≡ some z → G) → G
by_if true x y z G e f g = f e
by_if false x y z G e f g = g e

variable-named : (make : List ℕ → List ℕ → Declaration) → ((n s : List ℕ) → IsNamed (make n s)) → (fs : List Form) (e : Declaration) → variable_decl make fs ≡ some e → IsNamed e
variable-named make h [] e q = absurd cc
variable-named make h (f ∷ []) e q = absurd cc
variable-named make h (f ∷ g ∷ []) e q =
    let a = first_of_two (word_of f) (λ (n : List ℕ). name_of g then λ (s : List ℕ). Some (make n s)) e q in
    let b = first_of_two (name_of g) (λ (s : List ℕ). Some (make a.value s)) e a.gives in
    subst IsNamed (same_Some (make a.value b.value) e b.gives) (h a.value b.value)
variable-named make h (f ∷ g ∷ x ∷ xs) e q = absurd cc

object-named : (fs : List Form) (e : Declaration) → object_decl fs ≡ some e → IsNamed e
object-named [] e q = absurd cc
object-named (f ∷ []) e q = absurd cc
object-named (f ∷ g ∷ []) e q =
    let a = first_of_two (name_of f) (λ (n : List ℕ). name_of g then λ (s : List ℕ). Some (Object n s)) e q in
    let b = first_of_two (name_of g) (λ (s : List ℕ). Some (Object a.value s)) e a.gives in
    subst IsNamed (same_Some (Object a.value b.value) e b.gives) (name-is f a.value a.there)
object-named (f ∷ g ∷ x ∷ xs) e q = absurd cc

literal-named : (make : WrittenLiteral → Declaration) → ((l : WrittenLiteral) → IsNamed (make l)) → (o : Option WrittenLiteral) (e : Declaration) → option_map make o ≡ some e → IsNamed e
literal-named make h None e q = absurd cc
literal-named make h (Some l) e q = subst IsNamed (same_Some (make l) e q) (h l)

given-named : (fs : List Form) (e : Declaration) → given_decl fs ≡ some e → IsNamed e
given-named [] e q = absurd cc
given-named (f ∷ []) e q = literal-named Given (λ l. tt) (literal_of Any f) e q
given-named (f ∷ g ∷ fs) e q = absurd cc

require-named : (fs : List Form) (e : Declaration) → require_decl fs ≡ some e → IsNamed e
require-named [] e q = absurd cc
require-named (f ∷ []) e q = literal-named Require (λ l. tt) (literal_of Any f) e q
require-named (f ∷ g ∷ fs) e q = absurd cc

headed-named : (w : List ℕ) (fs : List Form) (e : Declaration) → decl_headed w fs ≡ some e → IsNamed e
headed-named w fs e q =
    by_if (bytes_eq w (codes "input")) _ _ e (IsNamed e) q (λ k. variable-named Input (λ n s. tt) fs e k)
    (λ q1. by_if (bytes_eq w (codes "object")) _ _ e (IsNamed e) q1 (λ k. object-named fs e k)
    (λ q2. by_if (bytes_eq w (codes "output")) _ _ e (IsNamed e) q2 (λ k. variable-named Output (λ n s. tt) fs e k)
    (λ q3. by_if (bytes_eq w (codes "given")) _ _ e (IsNamed e) q3 (λ k. given-named fs e k)
    (λ q4. by_if (bytes_eq w (codes "require")) _ _ e (IsNamed e) q4 (λ k. require-named fs e k) (λ k. absurd cc)))))

list-named : (fs : List Form) (e : Declaration) → decl_in fs ≡ some e → IsNamed e
list-named [] e q = absurd cc
list-named (f ∷ fs) e q =
    let a = first_of_two (word_of f) (λ (w : List ℕ). decl_headed w fs) e q in
    headed-named a.value fs e a.gives

pub form-named : (f : Form) (e : Declaration) → decl_of f ≡ some e → IsNamed e
unfolding decl_of
form-named f e q =
    let a : First (list_of f) decl_in e = first_of_two (list_of f) decl_in e q in
    list-named a.value e a.gives

-- ---- runs
abbrev ok : {A : Type 0} → A → Result A DiagramFault
ok x = Ok x

-- the draft at the end of the file of a diagram
pub record IsRead (t : Theory) (P : Draft → Type 0) (d : Diagram) : Type 0 where
  pub draft : Draft
  pub holds : P draft
  pub complete : end_kind draft ≡ None
  pub is : diagram_of t draft ≡ d

module _ (t : Theory) (P : Draft → Type 0)
    (start : (n : List ℕ) → head_kind t n ≡ None → P (started n))
    (step : (d : Draft) (e : Declaration) → P d → IsNamed e → first_kind t d e ≡ None → P (with_decl t d e)) where
  abbrev then_read : List Form → Result Draft DiagramFault → Result Draft DiagramFault
  then_read fs r = r >>= λ next. read_from t next fs

  by_kind : (p : ℕ) (fs : List Form) (d last : Draft) (e : Declaration) (k : Option DiagramKind) → first_kind t d e ≡ k → IsNamed e → P d → ((next : Draft) → P next → read_from t next fs ≡ ok last → P last) → then_read fs (unless p k (with_decl t d e)) ≡ ok last → P last
  by_kind p fs d last e None none named h more q = more (with_decl t d e) (step d e h named none) q
  by_kind p fs d last e (Some k) none named h more q = absurd cc

  by_decl : (f : Form) (fs : List Form) (d last : Draft) (o : Option Declaration) → decl_of f ≡ o → P d → ((next : Draft) → P next → read_from t next fs ≡ ok last → P last) → then_read fs (declared_by t f.place d o) ≡ ok last → P last
  by_decl f fs d last None of h more q = absurd cc
  by_decl f fs d last (Some e) of h more q = by_kind f.place fs d last e (first_kind t d e) refl (form-named f e of) h more q

  kept-from : (fs : List Form) (d last : Draft) → P d → read_from t d fs ≡ ok last → P last
  unfolding read_from declared
  kept-from [] d last h q = let same : d ≡ last = cc in subst P same h
  kept-from (f ∷ fs) d last h q = by_decl f fs d last (decl_of f) refl h (λ next k r. kept-from fs next last k r) q

  by_end : (size : ℕ) (d : Diagram) (last : Draft) (o : Option DiagramKind) → end_kind last ≡ o → P last → unless size o (diagram_of t last) ≡ ok d → IsRead t P d
  by_end size d last None none h q = record { draft = last; holds = h; complete = none; is = cc }
  by_end size d last (Some k) none h q = absurd cc

  by_last : (size : ℕ) (fs : List Form) (d : Diagram) (first : Draft) (r : Result Draft DiagramFault) → read_from t first fs ≡ r → P first → (r >>= ended t size) ≡ ok d → IsRead t P d
  by_last size fs d first (Ok last) is h q = by_end size d last (end_kind last) refl (kept-from fs first last h is) q
  by_last size fs d first (Err e) is h q = absurd cc

  abbrev then_all : ℕ → List Form → Result Draft DiagramFault → Result Diagram DiagramFault
  then_all size fs r = r >>= λ d. read_from t d fs >>= ended t size

  by_head_kind : (size p : ℕ) (fs : List Form) (d : Diagram) (n : List ℕ) (o : Option DiagramKind) → head_kind t n ≡ o → then_all size fs (unless p o (started n)) ≡ ok d → IsRead t P d
  by_head_kind size p fs d n None none q = by_last size fs d (started n) (read_from t (started n) fs) refl (start n none) q
  by_head_kind size p fs d n (Some k) none q = absurd cc

  by_head : (size p : ℕ) (fs : List Form) (d : Diagram) (o : Option (List ℕ)) → then_all size fs (draft_of_head t p o) ≡ ok d → IsRead t P d
  by_head size p fs d None q = absurd cc
  by_head size p fs d (Some n) q = by_head_kind size p fs d n (head_kind t n) refl q

  by_forms : (size : ℕ) (fs : List Form) (d : Diagram) → forms_diagram t size fs ≡ ok d → IsRead t P d
  unfolding forms_diagram
  by_forms size [] d q = absurd cc
  by_forms size (f ∷ fs) d q = by_head size f.place fs d (diagram_name_of f) q

  by_text : (size : ℕ) (r : Result (List Form) TextFault) (d : Diagram) → text_diagram t size r ≡ ok d → IsRead t P d
  by_text size (Ok fs) d q = by_forms size fs d q
  by_text size (Err e) d q = absurd cc

  pub is_read : (bytes : List ℕ) (d : Diagram) → diagram t bytes ≡ ok d → IsRead t P d
  unfolding diagram
  is_read bytes d q = by_text (length bytes) (read file_limit depth_limit bytes) d q
