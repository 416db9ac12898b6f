-- The sorts of the example theory, by their numbers.
use Rattle.am_term.specs.declared.id.SortId.{SortId}

abbrev pub time : SortId
time = record { 0 = 0 }

abbrev pub point : SortId
point = record { 0 = 1 }

abbrev pub surface : SortId
surface = record { 0 = 2 }

abbrev pub utc : SortId
utc = record { 0 = 3 }

abbrev pub et : SortId
et = record { 0 = 4 }

abbrev pub km : SortId
km = record { 0 = 5 }

abbrev pub angle : SortId
angle = record { 0 = 6 }

abbrev pub body : SortId
body = record { 0 = 7 }

abbrev pub frame : SortId
frame = record { 0 = 8 }

abbrev pub abcorr : SortId
abcorr = record { 0 = 9 }

abbrev pub vector : SortId
vector = record { 0 = 10 }

abbrev pub matrix : SortId
matrix = record { 0 = 11 }
