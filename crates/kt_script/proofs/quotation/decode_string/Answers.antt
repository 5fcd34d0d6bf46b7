use Rattle.std.proofs.Common.{refl, sym, subst}
use Rattle.kt_script.proofs.Common.{Quote, Escape, Flawed}
use Rattle.kt_script.proofs.Quotations.{ReadsOn, comes_to, begins, plain_cut, escape_cut, reads_escape, reads_end, reads_flaw}
use Rattle.kt_script.proofs.quotation.decode_string.Goals as goal

pub runs-init : goal.runs-init
runs-init c = (subst (λ string. ReadsOn c.args.quote string c.args.text.now c.args.text.now) (sym c.new-string.ensures) (begins c.args.quote c.args.text.now), c.utf8.text)

pub split_at-requires : goal.split_at-requires
split_at-requires c = plain_cut c.args.quote c.plain_length.result c.runs.rest.now c.as_bytes.result.now c.requires c.plain_length.ensures.value c.as_bytes.ensures.value

pub returns-in-Quote-clause-value : goal.returns-in-Quote-clause-value
returns-in-Quote-clause-value c =
    let s = comes_to c.args.quote c.plain_length.result c.runs.string c.runs.rest.now c.args.text.now c.push_str.new.self c.split_at.result.0.now c.split_at.result.1.now
    c.as_bytes.result.now c.as_bytes-in-runs.result.now Quote c.string_element.result c.requires c.runs.invariant.0 c.runs.invariant.1 c.plain_length.ensures.value c.as_bytes.ensures.value
    c.split_at.ensures.front c.split_at.ensures.back c.in_ok-push_str.ensures.ok c.string_element.ensures c.as_bytes-in-runs.ensures.value c.in-Quote.is in
    reads_end c.args.quote _ c.push_str.new.self c.split_at.result.1.now c.args.text.now s.reads s.none s.stands refl

pub returns-in-Flawed-clause-value : goal.returns-in-Flawed-clause-value
returns-in-Flawed-clause-value c =
    let s = comes_to c.args.quote c.plain_length.result c.runs.string c.runs.rest.now c.args.text.now c.push_str.new.self c.split_at.result.0.now c.split_at.result.1.now
    c.as_bytes.result.now c.as_bytes-in-runs.result.now (Flawed c.in-Flawed.flaw) c.string_element.result c.requires c.runs.invariant.0 c.runs.invariant.1 c.plain_length.ensures.value c.as_bytes.ensures.value
    c.split_at.ensures.front c.split_at.ensures.back c.in_ok-push_str.ensures.ok c.string_element.ensures c.as_bytes-in-runs.ensures.value c.in-Flawed.is in
    reads_flaw c.args.quote c.push_str.new.self c.split_at.result.1.now c.args.text.now c.in-Flawed.flaw s.reads s.none s.stands

pub range_from-rest-requires : goal.range_from-rest-requires
range_from-rest-requires c =
    let s = comes_to c.args.quote c.plain_length.result c.runs.string c.runs.rest.now c.args.text.now c.push_str.new.self c.split_at.result.0.now c.split_at.result.1.now
    c.as_bytes.result.now c.as_bytes-in-runs.result.now (Escape c.in-Escape.c) c.string_element.result c.requires c.runs.invariant.0 c.runs.invariant.1 c.plain_length.ensures.value c.as_bytes.ensures.value
    c.split_at.ensures.front c.split_at.ensures.back c.in_ok-push_str.ensures.ok c.string_element.ensures c.as_bytes-in-runs.ensures.value c.in-Escape.is in
    λ _. escape_cut c.args.quote c.in-Escape.c c.split_at.result.1.now s.utf8 s.stands

pub runs-preserved : goal.runs-preserved
runs-preserved c =
    let s = comes_to c.args.quote c.plain_length.result c.runs.string c.runs.rest.now c.args.text.now c.push_str.new.self c.split_at.result.0.now c.split_at.result.1.now
    c.as_bytes.result.now c.as_bytes-in-runs.result.now (Escape c.in-Escape.c) c.string_element.result c.requires c.runs.invariant.0 c.runs.invariant.1 c.plain_length.ensures.value c.as_bytes.ensures.value
    c.split_at.ensures.front c.split_at.ensures.back c.in_ok-push_str.ensures.ok c.string_element.ensures c.as_bytes-in-runs.ensures.value c.in-Escape.is in (
      reads_escape c.args.quote c.in-Escape.c c.push_str.new.self c.split_at.result.1.now c.args.text.now c.push.new.self c.range_from-rest.result.now s.reads s.none s.stands
          c.in_ok-push-in-Escape.ensures.ok c.range_from-rest.ensures.value,
      c.range_from-rest.utf8,
    )
