use Rattle.std.proofs.Common.{◌≡◌, ◌++◌, map}
use Rattle.std.specs.List.{flat_map}
use Rattle.am_exec.specs.Lawful.{dummies_of}
use Rattle.am_plan.specs.Calls.{calls}
use Rattle.am_plan.specs.Names.{named_terms, locals}
use Rattle.am_plan.specs.Plan.{dummy_decl, local_decl, called_function_decl, functions_used, statement_of, copies}
use Rattle.am_plan.proofs.Keeping.{plan-well}
use Rattle.am_plan.proofs.UnitPlanned.{names-are}
use Rattle.am_plan.proofs.planning.plan.Goals as goal

pub invariant_of-result : goal.invariant_of-result
invariant_of-result c =
    let t = c.args.theory.now in
    let d = c.args.diagram.now in
    let answer = c.args.answer.now in
    let es : c.in_ok-declarations.declarations ≡ map (dummy_decl t) (dummies_of d) ++ map (local_decl t) (locals d.outputs answer (named_terms t d answer)) ++ map (called_function_decl t) (functions_used t (calls t answer)) = cc (names-are t d answer, c.in_ok-calls.ensures, c.in_ok-names.ensures, c.in_ok-declarations.ensures) in
    let ss : c.in_ok-statements.statements ≡ flat_map (statement_of t d (named_terms t d answer)) (calls t answer) ++ copies t d (named_terms t d answer) d.outputs answer = cc (names-are t d answer, c.in_ok-calls.ensures, c.in_ok-names.ensures, c.in_ok-statements.ensures) in
    let w = plan-well t d answer c.in_ok-name.name c.in_ok-dummies.dummies c.in_ok-declarations.declarations c.in_ok-statements.statements c.requires.theory c.requires.diagram c.requires.answer c.in_ok-name.ensures c.in_ok-dummies.ensures es ss in
    record {
      named = w.named;
      dummies_named = w.dummies_named;
      some_dummy = w.some_dummy;
      few_dummies = w.few_dummies;
      declared = w.declared;
      stated = w.stated;
    }

pub returns : goal.returns
returns c = record {
  name = c.in_ok-name.ensures;
  dummies = c.in_ok-dummies.ensures;
  declarations = cc (names-are c.args.theory.now c.args.diagram.now c.args.answer.now, c.in_ok-calls.ensures, c.in_ok-names.ensures, c.in_ok-declarations.ensures);
  statements = cc (names-are c.args.theory.now c.args.diagram.now c.args.answer.now, c.in_ok-calls.ensures, c.in_ok-names.ensures, c.in_ok-statements.ensures);
}
