use Rattle.std.proofs.Common.{◌≡◌, ◌∙◌, ◌++◌, ℕ, List, Option, ap, map}
use Rattle.std.specs.List.{flat_map}
use Rattle.am_theory.specs.declared.theory.Routine.{Routine}
use Rattle.am_theory.specs.declared.theory.FortranFunction.{FortranFunction}
use Rattle.am_theory.specs.Lookups.{listed_name}
use Rattle.am_diagram.proofs.LookSteps.{joined}
use Rattle.am_diagram.proofs.looking.fortran_names.Goals as goal

pub returns : goal.returns
returns c =
    let f : c.in_ok-table.table.names ≡ c.new-table.result.names ++ map (λ (r : Routine). r.name) c.args.theory.now.routines = c.in_ok-table.ensures ∙ ap (λ (rs : List Routine). c.new-table.result.names ++ map (λ (r : Routine). r.name) rs) c.as_slice.ensures in
    let g : c.in_ok-table-2.table.names ≡ c.in_ok-table.table.names ++ map (λ (h : FortranFunction). h.name) c.args.theory.now.functions = c.in_ok-table-2.ensures ∙ ap (λ (hs : List FortranFunction). c.in_ok-table.table.names ++ map (λ (h : FortranFunction). h.name) hs) c.as_slice-2.ensures in
    let h : c.in_ok-table-3.table.names ≡ c.in_ok-table-2.table.names ++ flat_map listed_name c.args.theory.now.copies = c.in_ok-table-3.ensures ∙ ap (λ (ms : List (Option (List ℕ))). c.in_ok-table-2.table.names ++ flat_map listed_name ms) c.as_slice-3.ensures in
    joined c.new-table.result.names c.in_ok-table.table.names c.in_ok-table-2.table.names c.in_ok-table-3.table.names (map (λ (r : Routine). r.name) c.args.theory.now.routines) (map (λ (h : FortranFunction). h.name) c.args.theory.now.functions) (flat_map listed_name c.args.theory.now.copies) c.new-table.ensures f g h
