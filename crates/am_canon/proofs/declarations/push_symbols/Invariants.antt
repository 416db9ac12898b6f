use Rattle.std.proofs.Common.{◌≡◌, ◌++◌, map, drop}
use Rattle.am_syntax.specs.Scopes.{profile}
use Rattle.am_theory.specs.Contents.{contents}
use Rattle.am_canon.specs.CanonicalText.{symbol_decls}
use Rattle.am_canon.proofs.declarations.push_symbols.Given as goal

-- what was made, and what is left, is all
abbrev pub invariant-loop-number : goal.invariant-loop-number
invariant-loop-number l = l.out ++ symbol_decls (contents l.theory) l.number (map profile (drop l.number l.theory.sig.symbols)) ≡ l.fn.out ++ symbol_decls (contents l.theory) 0 (contents l.theory).symbols
