-- Words and numbers.
use Rattle.std.specs.Prelude.{ℕ, pos, neg_ℤ, List, [], ◌∷◌, Bool, false, Option, Some, None, nat_lt, ◌==◌, ◌^◌, if◌then◌else◌, ◌+◌, ◌*◌, ◌-◌}
use Rattle.std.specs.Char.{is_ascii_digit}
use Rattle.std.specs.List.{list_all}
use Rattle.am_text.specs.declared.form.FormNode.{FormNode}
use Rattle.am_text.specs.declared.form.FormNode.TheVariants.{Word, Number}

-- one or more decimal digits
abbrev pub has_digits : List ℕ → Bool
has_digits [] = false
has_digits (d ∷ ds) = list_all is_ascii_digit (d ∷ ds)

-- digits, or - and then digits
abbrev pub is_number : List ℕ → Bool
is_number [] = false
is_number (b ∷ bs) = if b == 45 then has_digits bs else has_digits (b ∷ bs)

-- the number that the digits stand for behind a number n
abbrev pub read_on : ℕ → List ℕ → ℕ
read_on n [] = n
read_on n (d ∷ ds) = read_on (10 * n + (d - 48)) ds

-- the number that a spelling of one stands for, if it fits 64 bits with a sign
abbrev pub number_of : List ℕ → Option FormNode
number_of [] = None
number_of (b ∷ bs) =
    if b == 45
    then (if nat_lt (2 ^ 63) (read_on 0 bs) then None else Some (Number (neg_ℤ (pos (read_on 0 bs)))))
    else (if nat_lt (read_on 0 (b ∷ bs)) (2 ^ 63) then Some (Number (pos (read_on 0 (b ∷ bs)))) else None)

-- the form that a run of a word's bytes is: a number where it is spelled as one, else a word; nothing for a
-- number that doesn't fit
unfoldable pub node_spelled : List ℕ → Option FormNode
node_spelled word = if is_number word then number_of word else Some (Word word)
