use Rattle.std.proofs.Common.{true, arith}
use Rattle.kt_os.proofs.ProgramSearch.{behind_text, goes_here, goes_last, goes_on}
use Rattle.kt_os.proofs.machine.program_search.is_program_in_path.Goals as goal

pub returns-then-has_program : goal.returns-then-has_program
returns-then-has_program g c =
    let at = c.in-Some.ensures.byte (omega arith) (λ w o f. f) in
    c.loop-directory.invariant.0 true _ (goes_here g.M.HostFiles.answers c.args.name.now c.loop-directory.rest.now c.in-Some.directory.now _ _ at.2 at.0 c.if-has_program.ensures)

pub loop-directory-preserved : goal.loop-directory-preserved
loop-directory-preserved g c =
    let at = c.in-Some.ensures.byte (omega arith) (λ w o f. f) in
    let parts = c.in-Some.ensures.cases in (
      goes_on g.M.HostFiles.answers c.args.name.now c.args.among.now c.loop-directory.rest.now c.in-Some.directory.now c.in-Some.behind.now c.args.machine.now c.loop-directory.machine c.has_program.new.machine
          at.2 at.0 at.1 c.if-has_program.ensures c.loop-directory.invariant.0,
      behind_text c.loop-directory.rest.now c.in-Some.behind.now parts.0 parts.1 c.loop-directory.invariant.1 parts.2 parts.4,
    )

pub returns : goal.returns
returns g c =
    c.loop-directory.invariant.0 c.has_program-2.result c.has_program-2.new.machine
    (goes_last g.M.HostFiles.answers c.args.name.now c.loop-directory.rest.now c.has_program-2.result _ _ (c.in_default.ensures.byte (omega arith) (λ w o f. f)) c.has_program-2.ensures)
