-- A command by the ids of its names and options, and what `clap` is told of them.
use Rattle.std.specs.Prelude.{◌+◌, ◌==◌, ◌&&◌, nat_eq, find, is_some, ℕ, Bool, true, false, not, List, [], ◌∷◌, length, map, min, Option, Some, None}
use denote.Ref.{Bor}
use Rattle.std.specs.List.{list_all}
use Rattle.std.specs.Option.{option_map_or}
use Rattle.std.specs.Str.{bytes_eq}
use Rattle.clap.specs.Lexer.{usize_max}
use Rattle.clap.specs.Words.{App, Rule, new_rule, new_app, with_rule}
use Rattle.clap.specs.Simple.{on_top}
use Rattle.clap.specs.declared.builder.action.ArgAction.TheVariants.{Set}
use Rattle.am_words.specs.Grammar.{Text}
use Rattle.am_words.specs.Grammar as grammar

-- the ids of the names in order, and the options, whose ids are their names
pub record Arguments : Type 0 where
  pub names : List Text
  pub options : List Text

-- the texts that references refer to
abbrev pub texts : List (Bor Text) → List Text
texts = map (λ r. r.now)

abbrev pub command_of : List Text → List Text → Arguments
command_of names options = record { names = names; options = options }

-- what it says of the words
abbrev pub command_shape : Arguments → grammar.CommandShape
command_shape c = record { count = length c.names; options = c.options }

-- ---- what `clap` is told

-- a name at its place, or an option
pub data Slot : Type 0 where
  name : ℕ → Text → Slot
  flag : Text → Slot

abbrev pub Slots : Type 0
Slots = List Slot

abbrev pub id : Slot → Text
id (name i k) = k
id (flag k) = k

abbrev pub told : Slot → Rule
told (name i k) = record (new_rule k) { action = Some Set; required = true }
told (flag k) = record (new_rule k) { long = Some k; action = Some Set }

-- the names numbered from i, as `clap` numbers them
abbrev pub slots_from : ℕ → List Text → Slots → Slots
slots_from i [] after = after
slots_from i (k ∷ ks) after = name i k ∷ slots_from (min (i + 1) usize_max) ks after

abbrev pub slots : Arguments → Slots
slots c = slots_from 1 c.names (map flag c.options)

-- a command without arguments and without `--help`
abbrev pub bare_app : Text → App
bare_app program = on_top (λ s. record s { disable_help_flag = true }) (new_app program)

-- the command that has them
abbrev pub app_by : Text → Arguments → App
app_by program c = on_top (λ s. record s { rules = map told (slots c) }) (bare_app program)

-- ---- no two arguments share an id

abbrev pub differs : Text → List Text → Bool
differs k [] = true
differs k (j ∷ js) = not (bytes_eq k j) && (not (bytes_eq j k) && differs k js)

abbrev pub all_differ : List Text → Bool
all_differ [] = true
all_differ (k ∷ ks) = differs k ks && all_differ ks

-- the slots are the same
abbrev pub same_slot : Slot → Slot → Bool
same_slot (name i k) (name j l) = nat_eq i j && bytes_eq k l
same_slot (flag k) (flag l) = bytes_eq k l
same_slot _ _ = false

abbrev pub is_slot : Option Slot → Slot → Bool
is_slot None s = false
is_slot (Some t) s = same_slot t s

abbrev pub number : Slot → Option ℕ
number (name i k) = Some i
number (flag k) = None

-- the slots have this one under its id
abbrev pub has_id : Slots → Slot → Bool
has_id ss s = is_slot (find (λ t. bytes_eq (id t) (id s)) ss) s

-- the slot of a number
abbrev pub at_number : Slots → ℕ → Option Slot
at_number ss i = find (λ t. option_map_or (λ j. j == i) (number t) false) ss

-- the names stand under their numbers, from i on, and nothing behind them
abbrev pub are_placed : Slots → ℕ → List Text → Bool
are_placed ss i [] = not (is_some (at_number ss i))
are_placed ss i (k ∷ ks) = is_slot (at_number ss i) (name i k) && (has_id ss (name i k) && are_placed ss (min (i + 1) usize_max) ks)

-- each argument is found by its number and its id, and no two share one
abbrev pub is_sound : Arguments → Bool
is_sound c = are_placed (slots c) 1 c.names && (list_all (λ k. has_id (slots c) (flag k)) c.options
    && (all_differ c.names && list_all (λ k. differs k c.names) c.options))

-- ---- the builder, one argument after the other

abbrev pub with_names : App → List Text → App
with_names a [] = a
with_names a (k ∷ ks) = with_names (with_rule a (told (name 0 k))) ks

abbrev pub with_options : App → List Text → App
with_options a [] = a
with_options a (k ∷ ks) = with_options (with_rule a (told (flag k))) ks
