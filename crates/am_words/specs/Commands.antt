-- The commands, and what their words ask for.
use Rattle.std.specs.Prelude.{ℕ, cond, codes, List, [], ◌∷◌, Option, Some, None, option_and_then}
use Rattle.std.specs.Str.{bytes_eq}
use Rattle.am_words.specs.Grammar.{Found, CommandShape, Text, reading_by, value_given}
use Rattle.am_words.specs.Numbers.{choice, number_between, number_or}
use Rattle.am_words.specs.declared.command.Command.{Command}
use Rattle.am_words.specs.declared.command.Command.TheVariants.{Make, Check, Theory, Demo}

-- ---- how many names

abbrev pub one : List Text → (Text → Option Command) → Option Command
one (a ∷ []) go = go a
one _ go = None

abbrev pub two : List Text → (Text → Text → Option Command) → Option Command
two (a ∷ b ∷ []) go = go a b
two _ go = None

abbrev pub three : List Text → (Text → Text → Text → Option Command) → Option Command
three (a ∷ b ∷ c ∷ []) go = go a b c
three _ go = None

-- ---- make THEORY DIAGRAM [--budget N] [--weight W] [--choose weight|age|mixed]

abbrev pub make_shape : CommandShape
make_shape = record { count = 2; options = codes "budget" ∷ codes "weight" ∷ codes "choose" ∷ [] }

abbrev pub make_of : Text → Text → Option ℕ → Option ℕ → Option ℕ → Option Command
make_of t d (Some b) (Some w) (Some c) = Some (Make t d b w c)
make_of t d _ _ _ = None

-- N is 1 to 100,000, 5,000 where it isn't given; W is 10 to 400, else 200
abbrev pub make_from : Found → Option Command
make_from f = two f.names (λ t d. make_of t d
    (number_or 1 100000 5000 (value_given (codes "budget") f.given))
    (number_or 10 400 200 (value_given (codes "weight") f.given))
    (choice (value_given (codes "choose") f.given)))

-- ---- check THEORY DIAGRAM TEXT

abbrev pub check_shape : CommandShape
check_shape = record { count = 3; options = [] }

abbrev pub check_from : Found → Option Command
check_from f = three f.names (λ t d x. Some (Check t d x))

-- ---- theory THEORY

abbrev pub theory_shape : CommandShape
theory_shape = record { count = 1; options = [] }

abbrev pub theory_from : Found → Option Command
theory_from f = one f.names (λ t. Some (Theory t))

-- ---- demo K

abbrev pub demo_shape : CommandShape
demo_shape = record { count = 1; options = [] }

abbrev pub demo_of : Option ℕ → Option Command
demo_of None = None
demo_of (Some k) = Some (Demo k)

-- K is 1 to 300
abbrev pub demo_from : Found → Option Command
demo_from f = one f.names (λ k. demo_of (number_between 1 300 k))

-- ---- the words behind a command's name

abbrev pub read_as_make : List Text → Option Command
read_as_make words = option_and_then make_from (reading_by make_shape words)

abbrev pub read_as_check : List Text → Option Command
read_as_check words = option_and_then check_from (reading_by check_shape words)

abbrev pub read_as_theory : List Text → Option Command
read_as_theory words = option_and_then theory_from (reading_by theory_shape words)

abbrev pub read_as_demo : List Text → Option Command
read_as_demo words = option_and_then demo_from (reading_by demo_shape words)

-- ---- the first word is the command

abbrev pub by_first : Text → List Text → Option Command
by_first w ws =
    cond (bytes_eq w (codes "make")) (read_as_make ws)
    (cond (bytes_eq w (codes "check")) (read_as_check ws)
    (cond (bytes_eq w (codes "theory")) (read_as_theory ws)
    (cond (bytes_eq w (codes "demo")) (read_as_demo ws) None)))

-- the one reading of the words, if they have one
abbrev pub reading : List Text → Option Command
reading [] = None
reading (w ∷ ws) = by_first w ws
