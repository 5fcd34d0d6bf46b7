use Rattle.std.proofs.Common.{arith}
use Rattle.kt_base.proofs.Texts.{not_found, found_at}
use Rattle.kt_base.proofs.text.Text.split_at_first.Goals as goal

pub returns-in_ok-copy-in-None-clause-front : goal.returns-in_ok-copy-in-None-clause-front
returns-in_ok-copy-in-None-clause-front c =
    rw (c.in_ok-copy-in-None.ensures, ← c.as_str.ensures.characters) ((not_found c.args.sign c.as_str.result.now c.as_str.utf8 c.in-None.ensures.cases).0)

pub returns-in_ok-copy-in-None-clause-rest : goal.returns-in_ok-copy-in-None-clause-rest
returns-in_ok-copy-in-None-clause-rest c = rw (← c.as_str.ensures.characters) ((not_found c.args.sign c.as_str.result.now c.as_str.utf8 c.in-None.ensures.cases).1)

pub returns-in_ok-from_str-in-Some-2-clause-front : goal.returns-in_ok-from_str-in-Some-2-clause-front
returns-in_ok-from_str-in-Some-2-clause-front c =
    let parts = c.in-Some.ensures.cases in
    let found = found_at c.args.sign c.as_str.result.now parts.0 parts.1 c.as_str.utf8 c.ranges.sign.0 (omega (arith, parts.5, parts.7)) parts.2 in
    rw (c.in_ok-from_str-in-Some.ensures, parts.3, ← c.as_str.ensures.characters) found.0

pub returns-in_ok-from_str-in-Some-2-clause-rest : goal.returns-in_ok-from_str-in-Some-2-clause-rest
returns-in_ok-from_str-in-Some-2-clause-rest c =
    let parts = c.in-Some.ensures.cases in
    let found = found_at c.args.sign c.as_str.result.now parts.0 parts.1 c.as_str.utf8 c.ranges.sign.0 (omega (arith, parts.5, parts.7)) parts.2 in
    rw (c.in_ok-from_str-in-Some-2.ensures, parts.4, ← c.as_str.ensures.characters) found.1
