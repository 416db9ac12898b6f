-- The example theory, as data: places and directions in the solar system. Its file is that of
-- `crates/amphion/data/planets.theory`.
use Rattle.std.specs.Prelude.{ℕ, pos, Option, Some, None, List, [], ◌∷◌, codes}
use Rattle.am_term.specs.declared.id.SortId.{SortId}
use Rattle.am_term.specs.declared.id.SymId.{SymId}
use Rattle.am_term.specs.declared.kind.SymKind.{SymKind}
use Rattle.am_term.specs.declared.kind.SymKind.TheVariants as kind
use Rattle.am_term.specs.declared.term.Term.{Term}
use Rattle.am_term.specs.declared.term.Term.TheVariants.{Var, App}
use Rattle.am_term.specs.declared.term.Atom.TheVariants.{Eq}
use Rattle.am_term.specs.declared.term.Formula.{Formula}
use Rattle.am_term.specs.declared.term.Formula.TheVariants.{Atom as Atomic}
use Rattle.am_syntax.specs.Scopes.{Profile}
use Rattle.am_theory.specs.declared.theory.Rep.{Rep}
use Rattle.am_theory.specs.declared.theory.Rep.TheVariants as rep
use Rattle.am_theory.specs.declared.theory.LitValue.TheVariants as value
use Rattle.am_theory.specs.declared.theory.Routine.{Routine}
use Rattle.am_theory.specs.declared.theory.FortranFunction.{FortranFunction}
use Rattle.am_theory.specs.declared.theory.LiteralDecl.{LiteralDecl}
use Rattle.am_theory.specs.declared.theory.Axiom.{Axiom}
use Rattle.am_theory.specs.Contents.{Contents}
use Rattle.am_example.specs.ExampleSorts as sort
use Rattle.am_example.specs.ExampleSymbols as symbol

abbrev pub te_sorts : List (List ℕ)
te_sorts =
    codes "time" ∷ codes "point" ∷ codes "surface" ∷ codes "utc" ∷ codes "et" ∷ codes "km" ∷ codes "angle" ∷ codes "body" ∷ codes "frame" ∷ codes "abcorr" ∷
    codes "vector" ∷ codes "matrix" ∷ []

-- no sort has a parent
abbrev pub te_parents : List (Option SortId)
te_parents = None ∷ None ∷ None ∷ None ∷ None ∷ None ∷ None ∷ None ∷ None ∷ None ∷ None ∷ None ∷ []

-- times, points and surfaces are spoken of alone
abbrev pub te_reps : List (Option Rep)
te_reps =
    None ∷ None ∷ None ∷ Some (rep.Char 32) ∷ Some rep.Double ∷ Some rep.Double ∷ Some rep.Double ∷ Some rep.Integer ∷ Some (rep.Char 32) ∷ Some (rep.Char 5) ∷
    Some (rep.DoubleVec 3) ∷ Some (rep.DoubleMat 3 3) ∷ []

abbrev pub te_copies : List (Option (List ℕ))
te_copies = None ∷ None ∷ None ∷ None ∷ None ∷ None ∷ None ∷ None ∷ None ∷ None ∷ Some (codes "VEQU") ∷ Some (codes "MEQU") ∷ []

-- a symbol that is no relation
abbrev pub giving : List ℕ → SymKind → List SortId → SortId → Profile
giving n k args s = record { name = n; args = args; result = Some s; kind = k }

abbrev pub te_symbols : List Profile
te_symbols =
    giving (codes "none") kind.Literal [] sort.abcorr ∷
    giving (codes "j2000") kind.Literal [] sort.frame ∷
    giving (codes "sun") kind.Literal [] sort.body ∷
    giving (codes "utc2et") kind.Output (sort.utc ∷ []) sort.et ∷
    giving (codes "spkezp-pos") kind.Output (sort.body ∷ sort.et ∷ sort.frame ∷ sort.abcorr ∷ sort.body ∷ []) sort.vector ∷
    giving (codes "spkezp-lt") kind.Output (sort.body ∷ sort.et ∷ sort.frame ∷ sort.abcorr ∷ sort.body ∷ []) sort.et ∷
    giving (codes "pxform") kind.Output (sort.frame ∷ sort.frame ∷ sort.et ∷ []) sort.matrix ∷
    giving (codes "mxv") kind.Output (sort.matrix ∷ sort.vector ∷ []) sort.vector ∷
    giving (codes "vsub") kind.Output (sort.vector ∷ sort.vector ∷ []) sort.vector ∷
    giving (codes "nearpt-point") kind.Output (sort.vector ∷ sort.km ∷ sort.km ∷ sort.km ∷ []) sort.vector ∷
    giving (codes "nearpt-alt") kind.Output (sort.vector ∷ sort.km ∷ sort.km ∷ sort.km ∷ []) sort.km ∷
    giving (codes "reclat-radius") kind.Output (sort.vector ∷ []) sort.km ∷
    giving (codes "reclat-lon") kind.Output (sort.vector ∷ []) sort.angle ∷
    giving (codes "reclat-lat") kind.Output (sort.vector ∷ []) sort.angle ∷
    giving (codes "vnorm") kind.Value (sort.vector ∷ []) sort.km ∷
    giving (codes "time-of") kind.Function (sort.et ∷ []) sort.time ∷
    giving (codes "utc-time") kind.Function (sort.utc ∷ []) sort.time ∷
    giving (codes "body-place") kind.Function (sort.body ∷ sort.time ∷ []) sort.point ∷
    giving (codes "ellipsoid") kind.Function (sort.frame ∷ sort.body ∷ sort.time ∷ sort.km ∷ sort.km ∷ sort.km ∷ []) sort.surface ∷
    giving (codes "nearest") kind.Function (sort.surface ∷ sort.point ∷ []) sort.point ∷
    giving (codes "coords") kind.Function (sort.frame ∷ sort.body ∷ sort.time ∷ sort.point ∷ []) sort.vector ∷
    giving (codes "longitude") kind.Function (sort.frame ∷ sort.body ∷ sort.time ∷ sort.point ∷ []) sort.angle ∷
    giving (codes "latitude") kind.Function (sort.frame ∷ sort.body ∷ sort.time ∷ sort.point ∷ []) sort.angle ∷ []

abbrev pub calling : List ℕ → List SortId → List SymId → Routine
calling n inputs outputs = record { name = n; inputs = inputs; outputs = outputs }

abbrev pub te_routines : List Routine
te_routines =
    calling (codes "UTC2ET") (sort.utc ∷ []) (symbol.utc2et ∷ []) ∷
    calling (codes "SPKEZP") (sort.body ∷ sort.et ∷ sort.frame ∷ sort.abcorr ∷ sort.body ∷ []) (symbol.spkezp-pos ∷ symbol.spkezp-lt ∷ []) ∷
    calling (codes "PXFORM") (sort.frame ∷ sort.frame ∷ sort.et ∷ []) (symbol.pxform ∷ []) ∷
    calling (codes "MXV") (sort.matrix ∷ sort.vector ∷ []) (symbol.mxv ∷ []) ∷
    calling (codes "VSUB") (sort.vector ∷ sort.vector ∷ []) (symbol.vsub ∷ []) ∷
    calling (codes "NEARPT") (sort.vector ∷ sort.km ∷ sort.km ∷ sort.km ∷ []) (symbol.nearpt-point ∷ symbol.nearpt-alt ∷ []) ∷
    calling (codes "RECLAT") (sort.vector ∷ []) (symbol.reclat-radius ∷ symbol.reclat-lon ∷ symbol.reclat-lat ∷ []) ∷ []

abbrev pub te_functions : List FortranFunction
te_functions = record { name = codes "VNORM"; symbol = symbol.vnorm } ∷ []

abbrev pub te_literals : List LiteralDecl
te_literals =
    record { symbol = symbol.none; value = value.Text (codes "NONE") } ∷
    record { symbol = symbol.j2000; value = value.Text (codes "J2000") } ∷
    record { symbol = symbol.sun; value = value.Int (pos 10) } ∷ []

-- ---- the axioms

abbrev pub equation : Term → Term → Formula
equation left right = Atomic (Eq left right)

-- the time that a text names is that of the ephemeris time which is made of it
abbrev pub time_axiom : Axiom
time_axiom =
    let x : Term = Var 0 sort.utc in
    record {
      vars = (codes "x", sort.utc) ∷ [];
      formula = equation (App symbol.utc-time (x ∷ [])) (App symbol.time-of (App symbol.utc2et (x ∷ []) ∷ []));
    }

-- the coordinates of the place of body 3 at time 2, in frame 0, which is centred on body 1
abbrev pub body_coords : Term
body_coords =
    let f : Term = Var 0 sort.frame in
    let c : Term = Var 1 sort.body in
    let e : Term = Var 2 sort.et in
    let b : Term = Var 3 sort.body in
    let time : Term = App symbol.time-of (e ∷ []) in
    App symbol.coords (f ∷ c ∷ time ∷ App symbol.body-place (b ∷ time ∷ []) ∷ [])

-- the position of body 3 at time 2, in frame 0, seen from body 1, without correction for light time
abbrev pub body_position : Term
body_position =
    let f : Term = Var 0 sort.frame in
    let c : Term = Var 1 sort.body in
    let e : Term = Var 2 sort.et in
    let b : Term = Var 3 sort.body in
    App symbol.spkezp-pos (b ∷ e ∷ f ∷ App symbol.none [] ∷ c ∷ [])

-- the coordinates of a body seen from another are its position
abbrev pub place_axiom : Axiom
place_axiom = record {
  vars = (codes "f", sort.frame) ∷ (codes "c", sort.body) ∷ (codes "e", sort.et) ∷ (codes "b", sort.body) ∷ [];
  formula = equation body_coords body_position;
}

-- the coordinates of the point, nearest to point 6, of the ellipsoid of body 1 with radii 3 to 5
abbrev pub nearest_coords : Term
nearest_coords =
    let f : Term = Var 0 sort.frame in
    let c : Term = Var 1 sort.body in
    let t : Term = Var 2 sort.time in
    let p : Term = Var 3 sort.km in
    let q : Term = Var 4 sort.km in
    let r : Term = Var 5 sort.km in
    let x : Term = Var 6 sort.point in
    App symbol.coords (f ∷ c ∷ t ∷ App symbol.nearest (App symbol.ellipsoid (f ∷ c ∷ t ∷ p ∷ q ∷ r ∷ []) ∷ x ∷ []) ∷ [])

-- the point nearest to the coordinates of point 6, for radii 3 to 5
abbrev pub nearest_position : Term
nearest_position =
    let f : Term = Var 0 sort.frame in
    let c : Term = Var 1 sort.body in
    let t : Term = Var 2 sort.time in
    let p : Term = Var 3 sort.km in
    let q : Term = Var 4 sort.km in
    let r : Term = Var 5 sort.km in
    let x : Term = Var 6 sort.point in
    App symbol.nearpt-point (App symbol.coords (f ∷ c ∷ t ∷ x ∷ []) ∷ p ∷ q ∷ r ∷ [])

-- the coordinates of the nearest point are the point nearest to the coordinates
abbrev pub nearest_axiom : Axiom
nearest_axiom = record {
  vars = (codes "f", sort.frame) ∷ (codes "c", sort.body) ∷ (codes "t", sort.time) ∷ (codes "p", sort.km) ∷ (codes "q", sort.km) ∷ (codes "r", sort.km) ∷ (codes "x", sort.point) ∷ [];
  formula = equation nearest_coords nearest_position;
}

-- an angle of a point is what one output of a routine gives for the point's coordinates
abbrev pub angle_axiom : SymId → SymId → Axiom
angle_axiom angle output =
    let f : Term = Var 0 sort.frame in
    let c : Term = Var 1 sort.body in
    let t : Term = Var 2 sort.time in
    let x : Term = Var 3 sort.point in
    record {
      vars = (codes "f", sort.frame) ∷ (codes "c", sort.body) ∷ (codes "t", sort.time) ∷ (codes "x", sort.point) ∷ [];
      formula = equation (App angle (f ∷ c ∷ t ∷ x ∷ [])) (App output (App symbol.coords (f ∷ c ∷ t ∷ x ∷ []) ∷ []));
    }

abbrev pub te_axioms : List Axiom
te_axioms = time_axiom ∷ place_axiom ∷ nearest_axiom ∷ angle_axiom symbol.longitude symbol.reclat-lon ∷ angle_axiom symbol.latitude symbol.reclat-lat ∷ []

-- what the example theory has
abbrev pub te : Contents
te = record {
  version = 1;
  sorts = te_sorts;
  parents = te_parents;
  reps = te_reps;
  copies = te_copies;
  symbols = te_symbols;
  routines = te_routines;
  functions = te_functions;
  literals = te_literals;
  axioms = te_axioms;
}
