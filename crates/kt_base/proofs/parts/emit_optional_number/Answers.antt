use Rattle.kt_base.proofs.parts.emit_optional_number.Goals as goal

pub returns-in-Some : goal.returns-in-Some
returns-in-Some g c = rw (c.in-Some.is, c.emit_number.ensures.ascii) c.emit_number.ensures.shown
