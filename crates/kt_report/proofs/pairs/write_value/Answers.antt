use Rattle.std.proofs.Common.{◌∷◌, [], ℕ, ap}
use Rattle.kt_report.proofs.Common.{shows_as, shows_error, shows_none, printable_byte}
use Rattle.std.proofs.lemmas.List.Concat.{flat_map_single}
use Rattle.kt_report.proofs.InTurn.{shows_next, shows_cut_off, shows_whole}
use Rattle.kt_report.proofs.pairs.write_value.Goals as goal

pub loop-byte-init : goal.loop-byte-init
loop-byte-init g c = shows_none

pub returns-in_err-emit : goal.returns-in_err-emit
returns-in_err-emit g c =
    let byte = shows_as (ap (λ b. b ∷ []) c.printable_byte.ensures) c.in_err-emit.ensures in
    let cut = shows_cut_off (λ (b : ℕ). printable_byte b ∷ []) c.args.value.now c.loop-byte.byte-index _ c.loop-byte-test.true c.loop-byte.invariant byte in
    shows_error _ _ c.from_residual.ensures.1 (shows_as (flat_map_single printable_byte c.args.value.now) cut)

pub loop-byte-preserved : goal.loop-byte-preserved
loop-byte-preserved g c =
    let byte = shows_as (ap (λ b. b ∷ []) c.printable_byte.ensures) c.in_ok-emit.ensures in
    shows_next (λ (b : ℕ). printable_byte b ∷ []) c.args.value.now c.loop-byte.byte-index _ c.loop-byte-test.true c.loop-byte.invariant byte

pub returns : goal.returns
returns g c =
    let whole = shows_whole (λ (b : ℕ). printable_byte b ∷ []) c.args.value.now c.loop-byte.byte-index c.loop-byte-test.false c.loop-byte.invariant in
    shows_as (flat_map_single printable_byte c.args.value.now) whole
