-- The two files of a demonstration, and the line that sums it up.
use Rattle.std.specs.Prelude.{◌+◌, ◌++◌, ◌/◌, ◌%◌, ℕ, zero, suc, List, [], ◌∷◌, codes}
use Rattle.std.specs.Fmt.{decimal}

-- the digit of a number at a power of ten
abbrev pub digit_at : ℕ → ℕ → ℕ
digit_at n power = 48 + n / power % 10

-- the last five digits of a number, with zeros in front where it has fewer
abbrev pub five_digits : ℕ → List ℕ
five_digits n = digit_at n 10000 ∷ digit_at n 1000 ∷ digit_at n 100 ∷ digit_at n 10 ∷ digit_at n 1 ∷ []

-- `(routine Cnnnnn (q) (ci q))`: nnnnn is i in five digits
unfoldable pub routine_line : ℕ → List ℕ
routine_line i = codes "(routine C" ++ five_digits i ++ codes " (q) (c" ++ decimal i ++ codes " q))" ++ 10 ∷ []

-- `(function ai (q) q)`
unfoldable pub function_line : ℕ → List ℕ
function_line i = codes "(function a" ++ decimal i ++ codes " (q) q)" ++ 10 ∷ []

-- `(ci (aj x))`, where i is one more than j
unfoldable pub later_value : ℕ → List ℕ
later_value j = codes "(c" ++ decimal (j + 1) ++ codes " (a" ++ decimal j ++ codes " x))"

-- what ai of x equals: `(c1 x)` for the first, and the above for a later one, with j one less than i; there is no a0
abbrev pub chain_value : ℕ → List ℕ
chain_value zero = []
chain_value (suc zero) = codes "(c1 x)"
chain_value (suc (suc j)) = later_value (suc j)

-- `(axiom (all ((x q)) (= (ai x) VALUE)))`
unfoldable pub axiom_line : ℕ → List ℕ
axiom_line i = codes "(axiom (all ((x q)) (= (a" ++ decimal i ++ codes " x) " ++ chain_value i ++ codes ")))" ++ 10 ∷ []

-- the lines of the numbers from 1 to k, in order
abbrev pub lines_to : (ℕ → List ℕ) → ℕ → List ℕ
lines_to line zero = []
lines_to line (suc k) = lines_to line k ++ line (suc k)

-- `(theory 1)` and `(sort q double)`
abbrev pub head_lines : List ℕ
head_lines = codes "(theory 1)" ++ 10 ∷ codes "(sort q double)" ++ 10 ∷ []

-- the theory of the demonstration of size k: the head, then the routines, the functions and the axioms from 1 to k
unfoldable pub theory_text : ℕ → List ℕ
theory_text k = head_lines ++ lines_to routine_line k ++ lines_to function_line k ++ lines_to axiom_line k

-- the lines `(diagram DEMO)`, `(input X q)` and `(output Y q)`
abbrev pub places_lines : List ℕ
places_lines = codes "(diagram DEMO)" ++ 10 ∷ codes "(input X q)" ++ 10 ∷ codes "(output Y q)" ++ 10 ∷ []

-- the diagram of the demonstration of size k: the output is ak of the input, `(require (= Y (ak X)))`
unfoldable pub diagram_text : ℕ → List ℕ
diagram_text k = places_lines ++ codes "(require (= Y (a" ++ decimal k ++ codes " X)))" ++ 10 ∷ []

-- `demo K: found, I inferences, C`
abbrev pub found_text : ℕ → ℕ → ℕ → List ℕ
found_text k inferences calls =
    codes "demo " ++ decimal k ++ codes ": found, " ++ decimal inferences ++ codes " inferences, " ++ decimal calls

-- ` proof rows`, and the line's end
abbrev pub rows_end : List ℕ
rows_end = codes " proof rows" ++ 10 ∷ []

-- `demo K: found, I inferences, C calls, R proof rows`
unfoldable pub summary_text : ℕ → ℕ → ℕ → ℕ → List ℕ
summary_text k inferences calls rows = found_text k inferences calls ++ codes " calls, " ++ decimal rows ++ rows_end
