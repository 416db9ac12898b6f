-- The text of a log, and which logs have one.
use Rattle.std.specs.Prelude.{◌≡◌, ◌+◌, ◌≤◌, ◌&&◌, ℕ, Bool, true, Option, Some, None, List, [], ◌∷◌, ◌++◌, codes, is_some, length, map}
use Rattle.std.specs.List.{list_all}
use Rattle.am_term.specs.declared.id.SortId.{SortId}
use Rattle.am_term.specs.declared.signature.Signature.{Signature}
use Rattle.am_term.specs.declared.term.Term.{Term}
use Rattle.am_term.specs.declared.id.SymId.{SymId}
use Rattle.am_term.specs.declared.term.Term.TheOpen.{Term-F}
use Rattle.am_term.specs.declared.term.Term.TheFolds.{fold-Term}
use Rattle.am_term.specs.declared.term.Term.TheVariants.{Var, In, App}
use Rattle.am_term.specs.declared.term.Atom.{Atom}
use Rattle.am_term.specs.declared.term.Atom.TheVariants.{Rel, Eq}
use Rattle.am_term.specs.declared.term.Literal.{Literal}
use Rattle.am_term.specs.Fold.{fold-Var, fold-In, fold-App}
use Rattle.am_clause.specs.SortedClause.{is_sorted_answer}
use Rattle.am_syntax.specs.Forms.{all_true}
use Rattle.am_term.specs.Sorting.{sort_of, is_sorted_literal}
use Rattle.am_text.specs.Grammar.{height}
use Rattle.am_clause.specs.declared.row.Row.{Row}
use Rattle.am_clause.specs.declared.row.Log.{Log}
use Rattle.am_theory.specs.declared.theory.Theory.{Theory}
use Rattle.am_diagram.specs.declared.diagram.Diagram.{Diagram}
use Rattle.am_diagram.specs.Listed.{entry_sorts}
use Rattle.am_log.specs.Cut.{wrapped}
use Rattle.am_log.specs.Naming.{Names, known_names, named_row}
use Rattle.am_log.specs.Spelled.{row_form, row_text, is_u32, fits_rule, rows_bound, row_depth_limit}

-- how many bytes a proof that is read may have
abbrev pub byte_limit : ℕ
byte_limit = 16777216

abbrev pub proof_line : List ℕ
proof_line = codes "C (proof 1)" ++ 10 ∷ []

-- the rows, numbered on from k
abbrev pub rows_text : Names → ℕ → List Row → List ℕ
rows_text n k [] = []
rows_text n k (r ∷ rs) = wrapped (row_text (named_row n k r)) ++ rows_text n (k + 1) rs

-- the first line, and the rows numbered from 1
unfoldable pub log_text : Theory → Diagram → Log → List ℕ
log_text t d log = proof_line ++ rows_text (known_names t d) 1 log.rows

-- ---- which logs have a text
abbrev pub has_sort : Signature → List SortId → Term → Bool
has_sort sig ins x = is_some (sort_of sig ins x)

-- each term has a sort, each literal is well sorted
abbrev pub is_sorted_row : Signature → List SortId → Row → Bool
is_sorted_row sig ins r =
    list_all (list_all (has_sort sig ins)) r.with && (list_all (is_sorted_literal sig ins) r.clause.literals && is_sorted_answer sig ins r.clause.answer)

-- ---- the numbers of a row fit 32 bits
abbrev pub numbers_step : Term-F Bool → Bool
numbers_step (Term-F.Var n s) = is_u32 n
numbers_step (Term-F.In k) = true
numbers_step (Term-F.App f bs) = all_true bs

unfoldable pub numbers_fit : Term → Bool
numbers_fit = fold-Term Bool numbers_step

pub numbers-Var : (n : ℕ) (s : SortId) → numbers_fit (Var n s) ≡ is_u32 n
unfolding numbers_fit
numbers-Var n s = fold-Var Bool numbers_step n s

pub numbers-In : (k : ℕ) → numbers_fit (In k) ≡ true
unfolding numbers_fit
numbers-In k = fold-In Bool numbers_step k

pub numbers-App : (f : SymId) (args : List Term) → numbers_fit (App f args) ≡ all_true (map numbers_fit args)
unfolding numbers_fit
numbers-App f args = fold-App Bool numbers_step f args

abbrev pub atom_fits : Atom → Bool
atom_fits (Rel r args) = list_all numbers_fit args
atom_fits (Eq left right) = numbers_fit left && numbers_fit right

abbrev pub literal_fits : Literal → Bool
literal_fits l = atom_fits l.atom

abbrev pub answer_fits : Option (List Term) → Bool
answer_fits None = true
answer_fits (Some xs) = list_all numbers_fit xs

abbrev pub row_fits : ℕ → Row → Bool
row_fits k r = is_u32 k && (fits_rule r.rule && (list_all (list_all numbers_fit) r.with && (list_all literal_fits r.clause.literals && answer_fits r.clause.answer)))

-- the row of this number has a `with` list for each row that its rule binds, is well sorted, nests at most as deep as may
-- be, and its numbers fit
pub record IsWritable (t : Theory) (d : Diagram) (k : ℕ) (r : Row) : Type 0 where
  pub bound : length r.with ≡ rows_bound r.rule
  pub numbers : row_fits k r ≡ true
  pub sorted : is_sorted_row t.sig (entry_sorts d.inputs) r ≡ true
  pub low : height (row_form (named_row (known_names t d) k r)) ≤ row_depth_limit

abbrev pub AreWritable : Theory → Diagram → ℕ → List Row → Type 0
AreWritable t d k [] = Unit {0}
AreWritable t d k (r ∷ rs) = IsWritable t d k r × AreWritable t d (k + 1) rs

-- each row is such a row
abbrev pub HasText : Theory → Diagram → Log → Type 0
HasText t d log = AreWritable t d 1 log.rows
