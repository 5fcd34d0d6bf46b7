-- The responses after one more response, and the totals after one more entry.
use Rattle.std.specs.Prelude.{ℕ, Bool, true, false, Some, not, cond, ◌+◌, ◌≤◌}
use Rattle.kt_sched.specs.Types.{Totals}
use Rattle.kt_base.specs.declared.verdict.Kind.{Kind}
use Rattle.kt_base.specs.Kinds.{good as is_good}
use Rattle.kt_sched.specs.Trace.{event_count}
use Rattle.kt_sched.specs.Responses.{Responses}

-- `responses_after_put fed failed`: the responses `fed`, followed by the response to a put, which
-- failed if `failed` is true.
abbrev pub responses_after_put : Responses → Bool → Responses
responses_after_put fed true = record fed { failed_put_after = Some (event_count fed.trace) }
responses_after_put fed false = record fed { stored = fed.stored + 1 }

-- `counted t kind`: the totals `t` with one more entry, whose verdict is of the kind `kind`.
abbrev pub counted : Totals → Kind → Totals
counted t kind = record { total = t.total + 1; good = t.good + cond (is_good kind) 1 0; bad = t.bad + cond (not (is_good kind)) 1 0 }

-- `CanCount t limit`: no number of the totals `t` exceeds `limit` if one more entry is counted. The
-- numbers of good and bad entries are at most that of all entries.
pub record CanCount (t : Totals) (limit : ℕ) : Type 0 where
  pub total : t.total + 1 ≤ limit
  pub good : t.good ≤ t.total
  pub bad : t.bad ≤ t.total
