-- What a line of words says, by how many names a command takes and which options it has.
use Rattle.std.specs.Prelude.{codes, ◌==◌, ℕ, Bool, cond, true, false, nat_eq, List, [], ◌∷◌, length, find, Option, Some, None, is_some}
use Rattle.std.specs.List.{list_any, before_first, after_first}
use Rattle.std.specs.Str.{bytes_eq}

-- a word, as the list of its bytes
abbrev pub Text : Type 0
Text = List ℕ

-- how many names a command takes, and what its options are called
pub record CommandShape : Type 0 where
  pub count : ℕ
  pub options : List Text

-- what words say: the names in order, and the options with their values
pub record Found : Type 0 where
  pub names : List Text
  pub given : List (Text × Text)

-- the value that was given for an option
abbrev pub value_given : Text → List (Text × Text) → Option Text
value_given k [] = None
value_given k (g ∷ gs) = cond (bytes_eq g.0 k) (Some g.1) (value_given k gs)

-- ---- one word (45 is `-`, 61 is `=`)

-- the word `--`
abbrev pub is_dashes : Text → Bool
is_dashes w = bytes_eq w (codes "--")

-- the word begins with `-`
abbrev pub begins : Text → Bool
begins [] = false
begins (x ∷ rest) = nat_eq x 45

-- an option: the word begins with `-` and is longer than one byte
abbrev pub is_option : Text → Bool
is_option (x ∷ y ∷ rest) = nat_eq x 45
is_option _ = false

-- `--k` alone, `--k=v`, or no option of the command
pub data OptionWord : Type 0 where
  alone : Text → OptionWord
  with : Text → Text → OptionWord
  unknown : OptionWord

abbrev pub with_name : Option Text → Bool → Text → OptionWord
with_name None has_value v = unknown
with_name (Some k) true v = with k v
with_name (Some k) false v = alone k

-- all that follows `--`: the option's name, up to the first `=`, and its value behind that
abbrev pub option_named : List Text → Text → OptionWord
option_named options rest = with_name (find (λ k. bytes_eq k (before_first (λ c. c == 61) rest)) options) (list_any (λ c. c == 61) rest) (after_first (λ c. c == 61) rest)

-- which option it is: a word that begins with one `-` is none
abbrev pub option_word : List Text → Text → OptionWord
option_word options (x ∷ y ∷ rest) = cond (nat_eq y 45) (option_named options rest) unknown
option_word options _ = unknown

abbrev pub by_option : OptionWord → (Text → Option Found) → (Text → Text → Option Found) → Option Found
by_option (alone k) go_alone go_with = go_alone k
by_option (with k v) go_alone go_with = go_with k v
by_option unknown go_alone go_with = None

-- ---- the words from left to right

-- a name, before what further words say
abbrev pub and_name : Text → Option Found → Option Found
and_name n None = None
and_name n (Some f) = Some (record { names = n ∷ f.names; given = f.given })

-- an option and its value, before what further words say: these may not give it again
abbrev pub and_option : Text → Text → Option Found → Option Found
and_option k v None = None
and_option k v (Some f) = cond (is_some (value_given k f.given)) None (Some (record { names = f.names; given = (k, v) ∷ f.given }))

-- any word may come, or the value of an option must
pub data Mode : Type 0 where
  plain : Mode
  value : Text → Mode

-- What words say, where `bars` tells which words are no value of an option. The end of the words ends all but a wanted
-- value. Behind `--` each word is a name. Else an option is one of the command's, with its value behind `=` or as the next
-- word, and any other word is a name.
unfoldable pub said : (Text → Bool) → List Text → Mode → List Text → Option Found
said bars options plain [] = Some (record { names = []; given = [] })
said bars options (value k) [] = None
said bars options (value k) (w ∷ ws) = cond (bars w) None (and_option k w (said bars options plain ws))
said bars options plain (w ∷ ws) =
    cond (is_dashes w) (Some (record { names = ws; given = [] }))
    (cond (is_option w) (by_option (option_word options w) (λ k. said bars options (value k) ws) (λ k v. and_option k v (said bars options plain ws)))
    (and_name w (said bars options plain ws)))

-- there are as many names as the command takes
abbrev pub counted : CommandShape → Option Found → Option Found
counted s None = None
counted s (Some f) = cond (nat_eq s.count (length f.names)) (Some f) None

-- The one reading of the words, if they have one: the value of an option that is a word of its own may not begin with `-`.
abbrev pub reading_by : CommandShape → List Text → Option Found
reading_by s words = counted s (said begins s.options plain words)

-- ---- a form for private contracts

-- The same, but the word `-` alone passes as a value. For options that take no such value this is no difference.
abbrev pub loosely_by : CommandShape → List Text → Option Found
loosely_by s words = counted s (said is_option s.options plain words)
