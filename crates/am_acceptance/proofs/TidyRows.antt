-- The text of a row that is well sorted has no two blanks in a row, whatever its numbers are: it is cut without loss.
use Rattle.std.proofs.Common.{◌≡◌, ◌∙◌, ◌≤◌, ◌++◌, ◌&&◌, ◌||◌, ℕ, zero, suc, arith, refl, sym, ap, subst, Bool}
use Rattle.std.proofs.Common.{true, false, List, [], ◌∷◌, length, length-append, map, slice_get, slice_index_or}
use Rattle.std.proofs.Common.{Option, Some, None, is_some, nat_lt, codes, IsTrue}
use Rattle.std.specs.List.{list_all, AllByRecursion}
use Rattle.std.proofs.lemmas.Bool.{and_parts, ltb-true}
use Rattle.am_term.specs.declared.id.SortId.{SortId}
use Rattle.am_term.specs.declared.id.SymId.{SymId}
use Rattle.am_term.specs.declared.symbol.Symbol.{Symbol}
use Rattle.am_term.specs.declared.term.Atom.{Atom}
use Rattle.am_term.specs.declared.term.Atom.TheVariants.{Rel, Eq}
use Rattle.am_term.specs.declared.term.Literal.{Literal}
use Rattle.am_term.specs.declared.term.Term.{Term}
use Rattle.am_term.specs.declared.term.Term.TheVariants.{Var, In, App}
use Rattle.am_term.specs.Induct.{term_induct}
use Rattle.am_term.specs.Names.{is_name, is_fortran_name}
use Rattle.am_term.specs.Sorting.{sort_of, sorts_of, sort_of-Var, sort_of-In, sort_of-App, is_sorted_atom}
use Rattle.am_term.specs.Sorting.{is_sorted_literal}
use Rattle.am_text.specs.declared.form.Form.{Form}
use Rattle.am_syntax.specs.Forms.{headed_form}
use Rattle.am_clause.specs.declared.row.Row.{Row}
use Rattle.am_clause.specs.SortedClause.{is_sorted_answer}
use Rattle.am_theory.specs.declared.theory.Theory.{Theory}
use Rattle.am_theory.specs.Facts.{WellFormed, IsSymbol}
use Rattle.am_diagram.specs.declared.diagram.Diagram.{Diagram}
use Rattle.am_diagram.specs.Facts.{IsFree, WellFormed as WellDrawn}
use Rattle.am_diagram.specs.Listed.{entry_names, entry_sorts}
use Rattle.am_log.specs.declared.named.NamedTerm.{NamedTerm}
use Rattle.am_log.specs.declared.named.NamedTerm.TheVariants.{Variable, Alone}
use Rattle.am_log.specs.Cut.{cut, width, pieced_together, further_lines, piece_lines, wrapped}
use Rattle.am_log.specs.Naming.{Names, known_names, applied, named, named-Var, named-In, named-App, named_atom}
use Rattle.am_log.specs.Naming.{named_literal, named_answer, named_row}
use Rattle.am_log.specs.Spelled.{number_form, term_form, form-Variable, form-Alone, form-Headed, atom_form}
use Rattle.am_log.specs.Spelled.{signed_form, literal_form, bindings_form, rule_word, rule_members, rule_form}
use Rattle.am_log.specs.Spelled.{clause_form, answer_forms, row_form, row_text, is_row_name}
use Rattle.am_log.specs.Text.{has_sort, is_sorted_row}
use Rattle.am_log.proofs.Distinct.{all_at}
use Rattle.am_log.proofs.Known.{there, index_at, some_if, input_there, a_symbol, symbol_there, applies}
use Rattle.am_log.proofs.Known.{relation_applies, all_sorted, akin_both}
use Rattle.am_log.proofs.Neat.{AllNeat}
use Rattle.am_log.proofs.Tidy.{neat, word_neat, list_neat, tidy_joined}
use Rattle.am_log.proofs.WordsOf.{name_is_word}
use Rattle.am_acceptance.proofs.TidyWords.{any_number_neat, variable_neat, more, headed_neat, both_neat, maps_neat}
use Rattle.am_acceptance.proofs.TidyWords.{members_neat, rule_is_word}

-- ---- names

file_name : (w : List ℕ) → is_name w ≡ true → is_row_name w ≡ true
file_name w e = rw e refl

fortran_name : (w : List ℕ) → is_fortran_name w ≡ true → is_row_name w ≡ true
fortran_name w e = elim (is_name w) as (λ b. (b || is_fortran_name w) ≡ true) [ true ↦ refl | false ↦ e ]

symbol_at : (t : Theory) (ys : List Symbol) (k : ℕ) (y : Symbol) → AllByRecursion (IsSymbol t) ys
    → slice_get ys k ≡ a_symbol y → is_name y.name ≡ true
symbol_at t [] k y h e = absurd cc
symbol_at t (z ∷ ys) zero y h e = let s : z ≡ y = cc in subst (λ (x : Symbol). is_name x.name ≡ true) s h.0.named
symbol_at t (z ∷ ys) (suc k) y h e = symbol_at t ys k y h.1 e

module _ (t : Theory) (d : Diagram) (h : WellFormed t) (g : WellDrawn t d) where
  abbrev n : Names
  n = known_names t d

  abbrev sorted : Term → Bool
  sorted = has_sort t.sig (entry_sorts d.inputs)

  abbrev Spelled : Term → Type 0
  Spelled x = sorted x ≡ true → neat (term_form (named n x)) ≡ true

  abbrev AllSpelled : List Term → Type 0
  AllSpelled xs = list_all sorted xs ≡ true → AllNeat (map term_form (map (named n) xs))

  spell_var : (k : ℕ) (s : SortId) → Spelled (Var k s)
  spell_var k s e =
      let b : nat_lt s.0 (length t.sig.sorts) ≡ true =
      some_if s (nat_lt s.0 (length t.sig.sorts))
      (sym (ap is_some (sort_of-Var t.sig (entry_sorts d.inputs) k s)) ∙ e) in
      let w = there t.sig.sorts s.0 (ltb-true s.0 (length t.sig.sorts) b) in
      let name : slice_index_or t.sig.sorts s.0 [] ≡ w.0 = index_at t.sig.sorts s.0 w.0 w.1 in
      let ok : is_row_name w.0 ≡ true =
      file_name w.0 (all_at (λ (x : List ℕ). IsTrue (is_name x)) t.sig.sorts s.0 w.0 h.sorts_named w.1) in
      ap (λ (z : NamedTerm). neat (term_form z)) (named-Var n k s ∙ ap (λ (z : List ℕ). Variable z k) name)
      ∙ ap neat (form-Variable w.0 k) ∙ variable_neat w.0 k ok

  alone_neat : (w : List ℕ) → is_row_name w ≡ true → neat (term_form (Alone w)) ≡ true
  alone_neat w e = ap neat (form-Alone w) ∙ word_neat w (name_is_word w e)

  spell_in : (k : ℕ) → Spelled (In k)
  spell_in k e =
      let w = input_there d.inputs k (sym (ap is_some (sort_of-In t.sig (entry_sorts d.inputs) k)) ∙ e) in
      let name : slice_index_or (entry_names d.inputs) k [] ≡ w.0 = index_at (entry_names d.inputs) k w.0 w.1 in
      let free : IsFree t w.0 = all_at (λ (x : List ℕ). IsFree t x) (entry_names d.inputs) k w.0 g.inputs_named w.1 in
      ap (λ (z : NamedTerm). neat (term_form z)) (named-In n k ∙ ap Alone name)
      ∙ alone_neat w.0 (fortran_name w.0 free.fortran)

  symbol_name : (f : ℕ) (y : Symbol) → slice_get t.sig.symbols f ≡ a_symbol y
      → is_row_name (slice_index_or n.symbols f []) ≡ true
  symbol_name f y e =
      ap is_row_name (index_at n.symbols f y.name (symbol_there t.sig.symbols f y e))
      ∙ file_name y.name (symbol_at t t.sig.symbols f y h.symbols e)

  applied_neat : (w : List ℕ) (xs : List Term) → is_row_name w ≡ true → AllNeat (map term_form (map (named n) xs))
      → neat (term_form (applied w (map (named n) xs))) ≡ true
  applied_neat w [] e k = alone_neat w e
  applied_neat w (x ∷ xs) e k =
      ap neat (form-Headed w (map (named n) (x ∷ xs)))
      ∙ headed_neat w (map term_form (map (named n) (x ∷ xs))) (name_is_word w e) k

  spell_app : (f : SymId) (xs : List Term) → AllSpelled xs → Spelled (App f xs)
  spell_app f xs law e =
      let p = applies t.sig (slice_get t.sig.symbols f.0) (sorts_of t.sig (entry_sorts d.inputs) xs)
      (sym (ap is_some (sort_of-App t.sig (entry_sorts d.inputs) f xs)) ∙ e) in
      ap (λ (z : NamedTerm). neat (term_form z)) (named-App n f xs)
      ∙ applied_neat (slice_index_or n.symbols f.0 []) xs (symbol_name f.0 p.symbol p.is)
      (law (all_sorted t.sig (entry_sorts d.inputs) xs p.symbol.args p.fit))

  spell_none : AllSpelled []
  spell_none e = refl

  spell_more : (x : Term) (xs : List Term) → Spelled x → AllSpelled xs → AllSpelled (x ∷ xs)
  spell_more x xs law laws e =
      let s = and_parts (sorted x) (list_all sorted xs) e in
      more (term_form (named n x)) (map term_form (map (named n) xs)) (law s.0) (laws s.1)

  term_neat : (x : Term) → Spelled x
  term_neat = term_induct Spelled AllSpelled spell_var spell_in spell_app spell_none spell_more

  terms_neat : (xs : List Term) → AllSpelled xs
  terms_neat xs e = maps_neat sorted (named n) term_form term_neat xs e

  relation_neat : (r : SymId) (args : List Term) → is_row_name (slice_index_or n.symbols r.0 []) ≡ true
      → list_all sorted args ≡ true → neat (atom_form (named_atom n (Rel r args))) ≡ true
  relation_neat r [] e k =
      word_neat (slice_index_or n.symbols r.0 []) (name_is_word (slice_index_or n.symbols r.0 []) e)
  relation_neat r (x ∷ xs) e k =
      headed_neat (slice_index_or n.symbols r.0 []) (map term_form (map (named n) (x ∷ xs)))
      (name_is_word (slice_index_or n.symbols r.0 []) e) (terms_neat (x ∷ xs) k)

  atom_neat : (a : Atom) → is_sorted_atom t.sig (entry_sorts d.inputs) a ≡ true
      → neat (atom_form (named_atom n a)) ≡ true
  atom_neat (Rel r args) e =
      let p = relation_applies t.sig (slice_get t.sig.symbols r.0) (sorts_of t.sig (entry_sorts d.inputs) args) e in
      relation_neat r args (symbol_name r.0 p.symbol p.is)
      (all_sorted t.sig (entry_sorts d.inputs) args p.symbol.args p.fit)
  atom_neat (Eq left right) e =
      let s =
      akin_both t.sig (sort_of t.sig (entry_sorts d.inputs) left) (sort_of t.sig (entry_sorts d.inputs) right) e in
      headed_neat (codes "=") (term_form (named n left) ∷ term_form (named n right) ∷ []) refl
      (more (term_form (named n left)) (term_form (named n right) ∷ []) (term_neat left s.0)
      (more (term_form (named n right)) [] (term_neat right s.1) refl))

  signed_neat : (b : Bool) (f : Form) → neat f ≡ true → neat (signed_form b f) ≡ true
  signed_neat true f e = e
  signed_neat false f e = headed_neat (codes "not") (f ∷ []) refl (more f [] e refl)

  literal_neat : (l : Literal) → is_sorted_literal t.sig (entry_sorts d.inputs) l ≡ true
      → neat (literal_form (named_literal n l)) ≡ true
  literal_neat l e = signed_neat l.positive (atom_form (named_atom n l.atom)) (atom_neat l.atom e)

  with_neat : (xs : List Term) → list_all sorted xs ≡ true → neat (bindings_form (map (named n) xs)) ≡ true
  with_neat xs e = headed_neat (codes "with") (map term_form (map (named n) xs)) refl (terms_neat xs e)

  answer_neat : (o : Option (List Term)) → is_sorted_answer t.sig (entry_sorts d.inputs) o ≡ true
      → AllNeat (answer_forms (named_answer n o))
  answer_neat None e = refl
  answer_neat (Some xs) e =
      more (headed_form (codes "answer") (map term_form (map (named n) xs))) []
      (headed_neat (codes "answer") (map term_form (map (named n) xs)) refl (terms_neat xs e)) refl

  -- ---- rows

  row_neat : (k : ℕ) (r : Row) → is_sorted_row t.sig (entry_sorts d.inputs) r ≡ true
      → neat (row_form (named_row n k r)) ≡ true
  row_neat k r e =
      let lits = list_all (is_sorted_literal t.sig (entry_sorts d.inputs)) r.clause.literals in
      let last = is_sorted_answer t.sig (entry_sorts d.inputs) r.clause.answer in
      let a = and_parts (list_all (list_all sorted) r.with) (lits && last) e in
      let b = and_parts lits last a.1 in
      let q = named_row n k r in
      let withs : AllNeat (map bindings_form q.with) =
      maps_neat (list_all sorted) (map (named n)) bindings_form with_neat r.with a.0 in
      let made : neat (rule_form q.rule q.with) ≡ true =
      headed_neat (rule_word r.rule) (rule_members r.rule ++ map bindings_form q.with) (rule_is_word r.rule)
      (both_neat (rule_members r.rule) (map bindings_form q.with) (members_neat r.rule) withs) in
      let clause : neat (clause_form q.literals) ≡ true =
      headed_neat (codes "or") (map literal_form q.literals) refl
      (maps_neat (is_sorted_literal t.sig (entry_sorts d.inputs)) (named_literal n) literal_form literal_neat
      r.clause.literals b.0) in
      list_neat (number_form k ∷ rule_form q.rule q.with ∷ clause_form q.literals ∷ answer_forms q.answer)
      (more (number_form k) (rule_form q.rule q.with ∷ clause_form q.literals ∷ answer_forms q.answer)
      (any_number_neat k)
      (more (rule_form q.rule q.with) (clause_form q.literals ∷ answer_forms q.answer) made
      (more (clause_form q.literals) (answer_forms q.answer) clause (answer_neat r.clause.answer b.1))))

  -- the lines of a row are as long as its text at least
  pub lines_long : (k : ℕ) (r : Row) → is_sorted_row t.sig (entry_sorts d.inputs) r ≡ true
      → length (row_text (named_row n k r)) ≤ length (wrapped (row_text (named_row n k r)))
  lines_long k r e =
      let text = row_text (named_row n k r) in
      let whole : length (pieced_together (cut width text)) ≡ length text =
      ap length (tidy_joined 68 text (row_neat k r e)) in
      let pieces = piece_length (cut width text) in
      omega (arith, whole, pieces)
    where
      further_length : (ps : List (List ℕ)) → length (pieced_together ps) ≤ length (further_lines ps)
      further_length [] = omega arith
      further_length (p ∷ ps) =
          let s = further_length ps in
          omega (arith, s, length-append p (pieced_together ps), length-append p (10 ∷ further_lines ps))

      piece_length : (ps : List (List ℕ)) → length (pieced_together ps) ≤ length (piece_lines ps)
      piece_length [] = omega arith
      piece_length (p ∷ ps) =
          let s = further_length ps in
          omega (arith, s, length-append p (pieced_together ps), length-append p (10 ∷ further_lines ps))
