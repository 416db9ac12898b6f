-- What `clap`'s matches say of the words: a form for private contracts.
use Rattle.std.specs.Prelude.{◌≡◌, List, [], ◌∷◌, find, Some}
use Rattle.std.specs.Str.{bytes_eq}
use Rattle.clap.specs.Words.{first_value, found_of}
use Rattle.clap.specs.declared.parser.matches.Found.{Found as Entries}
use Rattle.clap.specs.declared.ArgMatches.{ArgMatches}
use Rattle.am_words.specs.Grammar.{Found, Text, loosely_by, value_given}
use Rattle.am_words.specs.Slots.{Arguments, command_shape}

-- the names stand under their ids
abbrev pub HasNames : Entries → List Text → List Text → Type 0
HasNames m [] [] = Unit {0}
HasNames m [] (n ∷ ns) = ⊥
HasNames m (k ∷ ks) [] = ⊥
HasNames m (k ∷ ks) (n ∷ ns) = (first_value m k ≡ Some n) × HasNames m ks ns

-- the matches are this reading
pub record IsTold (c : Arguments) (f : Found) (m : ArgMatches) : Type 0 where
  pub names : HasNames (found_of m) c.names f.names
  pub options : (k : Text) → find (λ j. bytes_eq j k) c.options ≡ Some k → first_value (found_of m) k ≡ value_given k f.given

-- the matches are the reading of the words, in which `-` alone passes as a value
pub record IsReadAs (c : Arguments) (words : List Text) (m : ArgMatches) : Type 0 where
  pub found : Found
  pub is : loosely_by (command_shape c) words ≡ Some found
  pub told : IsTold c found m
