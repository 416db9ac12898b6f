-- The text of a row has a byte or more for each literal, each argument of a term and each occurrence of a variable.
use Rattle.std.proofs.Common.{◌≡◌, ◌∙◌, ◌≤◌, ◌+◌, ◌++◌, ℕ, arith, ap, Bool, true, false, List, [], ◌∷◌, Option, Some}
use Rattle.std.proofs.Common.{None, length, length-append, map, codes, decimal, slice_index_or, flat_map}
use Rattle.std.specs.List.{join_with_byte}
use Rattle.am_term.specs.declared.id.SortId.{SortId}
use Rattle.am_term.specs.declared.id.SymId.{SymId}
use Rattle.am_term.specs.declared.term.Atom.{Atom}
use Rattle.am_term.specs.declared.term.Atom.TheVariants.{Rel, Eq}
use Rattle.am_term.specs.declared.term.Literal.{Literal}
use Rattle.am_term.specs.declared.term.Term.{Term}
use Rattle.am_term.specs.declared.term.Term.TheVariants.{Var, App}
use Rattle.am_term.specs.Induct.{term_induct, term_cases}
use Rattle.am_term.specs.Parts.{parts_of}
use Rattle.am_term.specs.Place.{args_of, args_of-Var, args_of-In, args_of-App}
use Rattle.am_text.specs.declared.form.Form.{Form}
use Rattle.am_text.specs.declared.form.FormNode.TheVariants as node
use Rattle.am_text.specs.Spelling.{written}
use Rattle.am_text.proofs.Folds.{written-Word, written-List, written-form}
use Rattle.am_syntax.specs.Forms.{word_form, list_form, headed_form}
use Rattle.am_clause.specs.declared.row.Row.{Row}
use Rattle.am_clause.specs.Numbered.{in_made}
use Rattle.am_clause.specs.Variables.{occurrences, occurrences_all, in_atom, in_literals, in_answer, occurrences-Var}
use Rattle.am_clause.specs.Variables.{occurrences-In, occurrences-App, occurrences-none, occurrences-more}
use Rattle.am_log.specs.declared.named.NamedTerm.{NamedTerm}
use Rattle.am_log.specs.Naming.{Names, named, named-Var, named-App, named_atom, named_literal, named_answer}
use Rattle.am_log.specs.Naming.{named_row}
use Rattle.am_log.specs.Spelled.{variable_word, number_form, term_form, form-Variable, form-Headed, atom_form}
use Rattle.am_log.specs.Spelled.{signed_form, literal_form, bindings_form, rule_word, rule_members, rule_form}
use Rattle.am_log.specs.Spelled.{clause_form, answer_forms, row_text}
use Rattle.am_derivation.specs.Sizes.{terms_of_answer}

-- ---- forms

-- the bytes of a form
abbrev pub size : Form → ℕ
size f = length (written f)

-- the values of all members, and one more for each
abbrev pub total : {A : Type 0} → (A → ℕ) → List A → ℕ
total v [] = 0
total v (x ∷ xs) = v x + 1 + total v xs

total-append : {A : Type 0} (v : A → ℕ) (xs ys : List A) → total v (xs ++ ys) ≡ total v xs + total v ys
total-append v [] ys = omega arith
total-append v (x ∷ xs) ys = let h = total-append v xs ys in omega arith

join_size : (fs : List Form) → total size fs ≤ length (join_with_byte 32 (map written fs)) + 1
join_size [] = omega arith
join_size (f ∷ []) = omega arith
join_size (f ∷ g ∷ fs) =
    let h = join_size (g ∷ fs) in
    omega (arith, h, length-append (written f) (32 ∷ join_with_byte 32 (map written (g ∷ fs))))

list_size : (fs : List Form) → total size fs + 1 ≤ size (list_form fs)
list_size fs =
    let joined : List ℕ = join_with_byte 32 (map written fs) in
    let e : size (list_form fs) ≡ length (40 ∷ joined ++ 41 ∷ []) =
    ap length (written-form 0 (node.List fs) ∙ written-List fs) in
    let h = join_size fs in
    omega (arith, e, h, length-append joined (41 ∷ []))

headed_size : (h : List ℕ) (fs : List Form) → total size fs ≤ size (headed_form h fs)
headed_size h fs = let s = list_size (word_form h ∷ fs) in omega (arith, s)

total-maps : {A B : Type 0} (v : A → ℕ) (f : A → B) (w : B → Form) → ((x : A) → v x ≤ size (w (f x))) → (xs : List A)
    → total v xs ≤ total size (map w (map f xs))
total-maps v f w h [] = omega arith
total-maps v f w h (x ∷ xs) = let one = h x in let more = total-maps v f w h xs in omega (arith, one, more)

-- ---- what is listed has at most so many members
total-flat : {A B : Type 0} (v : A → ℕ) (f : A → List B) → ((x : A) → length (f x) ≤ v x) → (xs : List A)
    → length (flat_map f xs) ≤ total v xs
total-flat v f h [] = omega arith
total-flat v f h (x ∷ xs) =
    let one = h x in
    let more = total-flat v f h xs in
    omega (arith, one, more, length-append (f x) (flat_map f xs))

pub total-count : {A : Type 0} (v : A → ℕ) (xs : List A) → length xs ≤ total v xs
total-count v [] = omega arith
total-count v (x ∷ xs) = let h = total-count v xs in omega (arith, h)

module _ (n : Names) where
  -- ---- terms

  -- the bytes of a term
  abbrev pub extent : Term → ℕ
  extent x = size (term_form (named n x))

  app_size : (f : SymId) (args : List Term) → total extent args ≤ extent (App f args)
  app_size f [] = omega arith
  app_size f (x ∷ xs) =
      let w : List ℕ = slice_index_or n.symbols f.0 [] in
      let e : extent (App f (x ∷ xs)) ≡ size (headed_form w (map term_form (map (named n) (x ∷ xs)))) =
      ap (λ (z : NamedTerm). size (term_form z)) (named-App n f (x ∷ xs))
      ∙ ap size (form-Headed w (map (named n) (x ∷ xs))) in
      let below = headed_size w (map term_form (map (named n) (x ∷ xs))) in
      let all = total-maps extent (named n) term_form (λ (y : Term). omega arith) (x ∷ xs) in
      omega (arith, e, below, all)

  -- those of its arguments are fewer
  pub args_size : (x : Term) → total extent (args_of x) ≤ extent x
  args_size = term_cases (λ x. total extent (args_of x) ≤ extent x)
      (λ k s. let e = ap (total extent) (args_of-Var k s) in omega (arith, e))
      (λ k. let e = ap (total extent) (args_of-In k) in omega (arith, e))
      (λ f args. let e = ap (total extent) (args_of-App f args) in let h = app_size f args in omega (arith, e, h))

  var_size : (k : ℕ) (s : SortId) → 1 ≤ extent (Var k s)
  var_size k s =
      let w : List ℕ = slice_index_or n.sorts s.0 [] in
      let e : extent (Var k s) ≡ length (variable_word w k) =
      ap (λ (z : NamedTerm). size (term_form z)) (named-Var n k s) ∙ ap size (form-Variable w k)
      ∙ ap length (written-form 0 (node.Word (variable_word w k)) ∙ written-Word (variable_word w k)) in
      omega (arith, e, length-append w (63 ∷ decimal k))

  term_count : (x : Term) → length (occurrences x) ≤ extent x
  term_count = term_induct
      (λ x. length (occurrences x) ≤ extent x)
      (λ xs. length (occurrences_all xs) ≤ total extent xs)
      (λ k s. let e = ap length (occurrences-Var k s) in let h = var_size k s in omega (arith, e, h))
      (λ k. let e = ap length (occurrences-In k) in omega (arith, e))
      (λ f args h. let e = ap length (occurrences-App f args) in let s = app_size f args in omega (arith, e, h, s))
      (let e = ap length occurrences-none in omega (arith, e))
      (λ x xs h k. let e = ap length (occurrences-more x xs) in
      omega (arith, e, h, k, length-append (occurrences x) (occurrences_all xs)))

  terms_count : (xs : List Term) → length (occurrences_all xs) ≤ total extent xs
  terms_count [] = let e = ap length occurrences-none in omega (arith, e)
  terms_count (x ∷ xs) =
      let e = ap length (occurrences-more x xs) in
      let one = term_count x in
      let more = terms_count xs in
      omega (arith, e, one, more, length-append (occurrences x) (occurrences_all xs))

  -- ---- literals

  -- the bytes of the arguments of a relation, or of both sides of an equation
  abbrev pub literal_extent : Literal → ℕ
  literal_extent l = total extent (parts_of l.atom)

  atom_size : (a : Atom) → total extent (parts_of a) ≤ size (atom_form (named_atom n a))
  atom_size (Rel r []) = omega arith
  atom_size (Rel r (x ∷ xs)) =
      let below = headed_size (slice_index_or n.symbols r.0 []) (map term_form (map (named n) (x ∷ xs))) in
      let all = total-maps extent (named n) term_form (λ (y : Term). omega arith) (x ∷ xs) in
      omega (arith, below, all)
  atom_size (Eq left right) =
      let below = headed_size (codes "=") (term_form (named n left) ∷ term_form (named n right) ∷ []) in
      omega (arith, below)

  signed_size : (b : Bool) (f : Form) → size f ≤ size (signed_form b f)
  signed_size true f = omega arith
  signed_size false f = let below = headed_size (codes "not") (f ∷ []) in omega (arith, below)

  literal_size : (l : Literal) → literal_extent l ≤ size (literal_form (named_literal n l))
  literal_size l =
      let a = atom_size l.atom in
      let s = signed_size l.positive (atom_form (named_atom n l.atom)) in
      omega (arith, a, s)

  atom_count : (a : Atom) → length (in_atom a) ≤ total extent (parts_of a)
  atom_count (Rel r args) = terms_count args
  atom_count (Eq left right) =
      let l = term_count left in
      let r = term_count right in
      omega (arith, l, r, length-append (occurrences left) (occurrences right))

  -- ---- rows

  bindings_size : (xs : List Term) → total extent xs ≤ size (bindings_form (map (named n) xs))
  bindings_size xs =
      let below = headed_size (codes "with") (map term_form (map (named n) xs)) in
      let all = total-maps extent (named n) term_form (λ (y : Term). omega arith) xs in
      omega (arith, below, all)

  answer_size : (o : Option (List Term))
      → total extent (terms_of_answer o) ≤ total size (answer_forms (named_answer n o))
  answer_size None = omega arith
  answer_size (Some xs) =
      let below = headed_size (codes "answer") (map term_form (map (named n) xs)) in
      let all = total-maps extent (named n) term_form (λ (y : Term). omega arith) xs in
      omega (arith, below, all)

  answer_count : (o : Option (List Term)) → length (in_answer o) ≤ total extent (terms_of_answer o)
  answer_count None = omega arith
  answer_count (Some xs) = terms_count xs

  -- so many bytes are enough for the row, and for its literals; no more variables occur in it
  pub record IsLong (most : ℕ) (r : Row) : Type 0 where
    pub some : 1 ≤ most
    pub literals : total literal_extent r.clause.literals ≤ most
    pub occurring : length (in_made r.with r.clause) ≤ most

  pub row_size : (k : ℕ) (r : Row) → IsLong (length (row_text (named_row n k r))) r
  row_size k r =
      let q = named_row n k r in
      let whole =
      list_size (number_form k ∷ rule_form q.rule q.with ∷ clause_form q.literals ∷ answer_forms q.answer) in
      let made = headed_size (rule_word r.rule) (rule_members r.rule ++ map bindings_form q.with) in
      let members = total-append size (rule_members r.rule) (map bindings_form q.with) in
      let lists = total-maps (total extent) (map (named n)) bindings_form bindings_size r.with in
      let clause = headed_size (codes "or") (map literal_form q.literals) in
      let literals = total-maps literal_extent (named_literal n) literal_form literal_size r.clause.literals in
      let answer = answer_size r.clause.answer in
      let in_lists = total-flat (total extent) occurrences_all terms_count r.with in
      let in_ls =
      total-flat literal_extent (λ (l : Literal). in_atom l.atom) (λ (l : Literal). atom_count l.atom)
      r.clause.literals in
      let in_last = answer_count r.clause.answer in
      let first = length-append (in_literals r.clause.literals) (in_answer r.clause.answer) in
      let second =
      length-append (in_literals r.clause.literals ++ in_answer r.clause.answer) (flat_map occurrences_all r.with) in
      record {
        some = omega arith;
        literals = omega arith;
        occurring = omega arith;
      }
