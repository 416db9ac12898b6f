-- Numbers and choices among the words.
use Rattle.std.specs.Prelude.{◌&&◌, ℕ, cond, codes, nat_le, length, Option, Some, None}
use Rattle.std.specs.List.{list_all}
use Rattle.std.specs.Str.{bytes_eq}
use Rattle.std.specs.Str.Parse.{digits_value}
use Rattle.am_term.specs.Names.{is_digit}
use Rattle.am_words.specs.Grammar.{Text}

-- one to nine digits, with their decimal value
abbrev pub short_number : Text → Option ℕ
short_number text = cond (nat_le 1 (length text) && (nat_le (length text) 9 && list_all is_digit text)) (Some (digits_value 10 text)) None

abbrev pub within : ℕ → ℕ → Option ℕ → Option ℕ
within least most None = None
within least most (Some n) = cond (nat_le least n && nat_le n most) (Some n) None

-- a number in the range
abbrev pub number_between : ℕ → ℕ → Text → Option ℕ
number_between least most text = within least most (short_number text)

-- the number of an option: where no value is given, the default
abbrev pub number_or : ℕ → ℕ → ℕ → Option Text → Option ℕ
number_or least most default None = Some default
number_or least most default (Some text) = number_between least most text

-- the place of a chooser, from 0: `weight`, which is the default, `age`, `mixed`
abbrev pub choice : Option Text → Option ℕ
choice None = Some 0
choice (Some text) = cond (bytes_eq text (codes "weight")) (Some 0) (cond (bytes_eq text (codes "age")) (Some 1) (cond (bytes_eq text (codes "mixed")) (Some 2) None))
