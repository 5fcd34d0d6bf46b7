use Rattle.std.proofs.Common.{◌≡◌, List, take, arith, length, ap, subst, sym, ◌∙◌, IsUtf8}
use Rattle.kt_script.proofs.Common.{nil_from_length, IsUtf8-drop, line_at_end, ScriptState, Stmt}
use Rattle.std.proofs.lemmas.Result.{err_from_is_err_and}
use Rattle.kt_script.proofs.PieceCuts.{piece_cut}
use Rattle.kt_script.proofs.Going.{goes_on, stops, ends_ok, ends_fault}
use Rattle.kt_script.proofs.script.statements.Goals as goal

pub split_at-requires : goal.split_at-requires
split_at-requires c = (piece_cut c.in_ok-piece.piece c.loop-rest.rest.now c.loop-rest.invariant.1 (grind arith) c.in_ok-piece.ensures).boundary

pub returns-in_err-place-clause-fault : goal.returns-in_err-place-clause-fault
returns-in_err-place-clause-fault c =
    let p = err_from_is_err_and c.from_residual-in_err-place.result c.from_residual-in_err-place.ensures.1 in
    let cut = piece_cut c.in_ok-piece.piece c.loop-rest.rest.now c.loop-rest.invariant.1 (grind arith) c.in_ok-piece.ensures in
    rw (p.1, p.2) (stops ScriptState (List Stmt) c.in_err-place.field-0.0 c.loop-rest.place c.loop-rest.parser c.loop-rest.line c.loop-rest.rest.now c.args.text.now c.in_ok-piece.piece c.loop-rest.invariant.0
    c.in_ok-piece.ensures cut.some cut.boundary.0 c.in_err-place.ensures.fault)

pub loop-rest-smaller : goal.loop-rest-smaller
loop-rest-smaller c =
    let cut = piece_cut c.in_ok-piece.piece c.loop-rest.rest.now c.loop-rest.invariant.1 (grind arith) c.in_ok-piece.ensures in
    omega (arith, cut.some, cut.boundary.0, c.split_at.ensures.back_len)

pub loop-rest-preserved : goal.loop-rest-preserved
loop-rest-preserved c =
    let cut = piece_cut c.in_ok-piece.piece c.loop-rest.rest.now c.loop-rest.invariant.1 (grind arith) c.in_ok-piece.ensures in
    let read : c.as_bytes.result.now ≡ take c.in_ok-piece.piece.length c.loop-rest.rest.now = c.as_bytes.ensures.value ∙ c.split_at.ensures.front in (
      goes_on c.loop-rest.place _ c.loop-rest.parser _ c.loop-rest.line _ c.loop-rest.rest.now _ _ c.in_ok-piece.piece c.loop-rest.invariant.0 c.in_ok-piece.ensures cut.some cut.boundary.0 c.in_ok-place.ensures.ok
          c.split_at.ensures.back (c.line_at_end-line.ensures.value ∙ ap (line_at_end c.loop-rest.line) read) (omega (arith, c.line_at_end-line.ensures.within, ap length read)),
      subst IsUtf8 (sym c.split_at.ensures.back) (IsUtf8-drop c.loop-rest.rest.now c.in_ok-piece.piece.length c.loop-rest.invariant.1 cut.boundary),
    )

pub returns-clause-ok : goal.returns-clause-ok
returns-clause-ok c = ends_ok c.finish.result c.loop-rest.place c.loop-rest.parser c.loop-rest.line c.loop-rest.rest.now c.args.text.now c.loop-rest.invariant.0
    (nil_from_length c.loop-rest.rest.now (grind arith)) c.finish.ensures.ok

pub returns-clause-fault : goal.returns-clause-fault
returns-clause-fault c = ends_fault c.finish.result c.loop-rest.place c.loop-rest.parser c.loop-rest.line c.loop-rest.rest.now c.args.text.now c.loop-rest.invariant.0
    (nil_from_length c.loop-rest.rest.now (grind arith)) c.finish.ensures.fault
