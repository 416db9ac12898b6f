-- The symbols of the example theory, by their numbers.
use Rattle.am_term.specs.declared.id.SymId.{SymId}

abbrev pub none : SymId
none = record { 0 = 0 }

abbrev pub j2000 : SymId
j2000 = record { 0 = 1 }

abbrev pub sun : SymId
sun = record { 0 = 2 }

abbrev pub utc2et : SymId
utc2et = record { 0 = 3 }

abbrev pub spkezp-pos : SymId
spkezp-pos = record { 0 = 4 }

abbrev pub spkezp-lt : SymId
spkezp-lt = record { 0 = 5 }

abbrev pub pxform : SymId
pxform = record { 0 = 6 }

abbrev pub mxv : SymId
mxv = record { 0 = 7 }

abbrev pub vsub : SymId
vsub = record { 0 = 8 }

abbrev pub nearpt-point : SymId
nearpt-point = record { 0 = 9 }

abbrev pub nearpt-alt : SymId
nearpt-alt = record { 0 = 10 }

abbrev pub reclat-radius : SymId
reclat-radius = record { 0 = 11 }

abbrev pub reclat-lon : SymId
reclat-lon = record { 0 = 12 }

abbrev pub reclat-lat : SymId
reclat-lat = record { 0 = 13 }

abbrev pub vnorm : SymId
vnorm = record { 0 = 14 }

abbrev pub time-of : SymId
time-of = record { 0 = 15 }

abbrev pub utc-time : SymId
utc-time = record { 0 = 16 }

abbrev pub body-place : SymId
body-place = record { 0 = 17 }

abbrev pub ellipsoid : SymId
ellipsoid = record { 0 = 18 }

abbrev pub nearest : SymId
nearest = record { 0 = 19 }

abbrev pub coords : SymId
coords = record { 0 = 20 }

abbrev pub longitude : SymId
longitude = record { 0 = 21 }

abbrev pub latitude : SymId
latitude = record { 0 = 22 }
