-- Which declarations are read again from their forms.
use Rattle.std.specs.Prelude.{◌&&◌, not, Bool}
use Rattle.std.specs.List.{list_all}
use Rattle.am_term.specs.Names.{is_name}
use Rattle.am_text.specs.Spelling.{is_word}
use Rattle.am_syntax.specs.declared.written.Words.TheVariants.{Names}
use Rattle.am_syntax.specs.Flaws.{has_quantifier}
use Rattle.am_syntax.specs.Forms.{is_some_list, is_spellable_formula}
use Rattle.am_theory.specs.declared.declaration.Declaration.{Declaration}
use Rattle.am_theory.specs.declared.declaration.Declaration.TheVariants as decl
use Rattle.am_theory.specs.Traces.{is_typed, is_rep_with, is_written_value}

-- Names are names, FORTRAN names are words, a copy routine stands behind a representation alone, a routine
-- has one or more outputs, numbers fit 64 bits, a text may be a text, and a formula can be a form and has
-- no quantifier inside.
abbrev pub is_spellable_declaration : Declaration → Bool
is_spellable_declaration (decl.Sort n r copy) = is_name n && is_rep_with r copy
is_spellable_declaration (decl.Subsort n s) = is_name n && is_name s
is_spellable_declaration (decl.Function n args r) = is_name n && (list_all is_name args && is_name r)
is_spellable_declaration (decl.Relation n args) = is_name n && list_all is_name args
is_spellable_declaration (decl.Literal n s v) = is_name n && (is_name s && is_written_value v)
is_spellable_declaration (decl.Routine n inputs outputs) = is_word n && (list_all is_name inputs && (list_all is_typed outputs && is_some_list outputs))
is_spellable_declaration (decl.Value f n args r) = is_word f && (is_name n && (list_all is_name args && is_name r))
is_spellable_declaration (decl.Axiom vs g) = list_all is_typed vs && (is_spellable_formula Names g && not (has_quantifier g))
