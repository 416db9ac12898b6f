-- What each byte of a text may be.
use Rattle.std.specs.Prelude.{ℕ, Bool, ◌&&◌, ◌||◌, not, nat_le, ◌==◌}
use Rattle.std.specs.Char.{is_ascii_alphanumeric}

-- tab, line feed, carriage return, space
abbrev pub is_blank : ℕ → Bool
is_blank b = b == 9 || (b == 10 || (b == 13 || b == 32))

-- a letter, a digit, or one of - = < > ?
abbrev pub is_word_byte : ℕ → Bool
is_word_byte b = is_ascii_alphanumeric b || (b == 45 || (b == 61 || (b == 60 || (b == 62 || b == 63))))

-- 32 to 126, but neither kind of quotation mark
abbrev pub is_text_byte : ℕ → Bool
is_text_byte b = nat_le 32 b && (nat_le b 126 && (not (b == 34) && not (b == 39)))

-- not the line feed, which ends a comment
abbrev pub is_line_byte : ℕ → Bool
is_line_byte b = not (b == 10)
