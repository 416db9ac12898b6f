-- For private contracts: the tables of names that the code looks up.
use Rattle.std.specs.Prelude.{◌≡◌}
use Rattle.am_theory.specs.declared.theory.Theory.{Theory}
use Rattle.am_diagram.specs.declared.diagram.Diagram.{Diagram}
use Rattle.am_diagram.specs.Listed.{entry_sorts}
use Rattle.am_log.specs.declared.tables.Tables.{Tables as CodeTables}
use Rattle.am_log.specs.Naming.{Names, known_names}

abbrev pub table_names : CodeTables → Names
table_names t = record { sorts = t.sorts.names; inputs = t.inputs.names; symbols = t.symbols.names }

-- the tables are those of the theory and the diagram
pub record AreTables (t : Theory) (d : Diagram) (tables : CodeTables) : Type 0 where
  pub names : table_names tables ≡ known_names t d
  pub ins : tables.ins ≡ entry_sorts d.inputs
