-- Each trace of a driver is a run (`Runs`) of its state.
use Rattle.std.proofs.Common.{◌≡◌, List, [], ◌++◌, refl, ◌∙◌}
use Rattle.kt_child.proofs.Common.{Role, Job, StartAnswer, Ended, Trace, NoEvent, Then, Start, End, Leads, Driver, DriverStarts, DriverWaits, Call, RunsFrom, driver_state}
use Rattle.kt_child.proofs.Chains.{chain_append}

-- For a state of type `D` that contains a driver.
module _ {D O : Type 0} (leads : O → Call → O → Type 0) (driver : D → Driver O) (starts : D → Job → Role → StartAnswer → D → Type 0) (waits : D → Ended → D → Type 0)
    (started : (d e : D) (job : Job) (role : Role) (answer : StartAnswer) → starts d job role answer e → DriverStarts leads (driver d) job role answer (driver e))
    (waited : (d e : D) (ended : Ended) → waits d ended e → DriverWaits leads (driver d) ended (driver e)) where
  -- A trace has the calls of its events, and `source` and `root` are unchanged.
  runs : (plan : List Job) (T : Trace) (d e : D) → Leads starts waits plan T d e
      → RunsFrom leads plan T (driver_state (driver d)) (driver d) (driver e) × ((driver e).source ≡ (driver d).source) × ((driver e).root ≡ (driver d).root)
  runs plan NoEvent d e led = rw led (([], refl, (refl, refl)), refl, refl)
  runs plan (Then T (Start i role answer)) d e (mid, job, led, at, h) =
      let l = runs plan T d mid led in
      let s = started mid e job role answer h in
      let chain = chain_append leads (driver d).os (driver mid).os (driver e).os l.0.0 s.0.0 l.0.1 s.0.1 in
      ((l.0.0 ++ s.0.0, chain, (driver_state (driver mid), l.0.0, s.0.0, refl, l.0.2, (job, at, rw (l.1, l.2) at s.0.2))), s.1 ∙ l.1, s.2 ∙ l.2)
  runs plan (Then T (End ended)) d e (mid, led, h) =
      let l = runs plan T d mid led in
      let w = waited mid e ended h in
      let chain = chain_append leads (driver d).os (driver mid).os (driver e).os l.0.0 w.0.0 l.0.1 w.0.1 in
      ((l.0.0 ++ w.0.0, chain, (driver_state (driver mid), l.0.0, w.0.0, refl, l.0.2, w.0.2.0)), w.1 ∙ l.1, w.2 ∙ l.2)

  -- Each trace of starts and waits has the calls of its events (`CallsMatchTraces`).
  pub ends_follow : (plan : List Job) (T : Trace) (d e : D) → Leads starts waits plan T d e → RunsFrom leads plan T (driver_state (driver d)) (driver d) (driver e)
  ends_follow plan T d e led = (runs plan T d e led).0
