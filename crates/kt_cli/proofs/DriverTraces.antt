-- The calls of a driver during a command.
use Rattle.std.proofs.Common.{◌≡◌, ◌∙◌, List, [], ◌∷◌, ap, subst}
use Rattle.kt_cli.proofs.Common.{Chain, ChildrenState, idle_state, WorldCall, CallToTree, CallToHost, WorldLeads, HostWorld, IsHostReply, IsFileCall, host_world, file_call_keeps_children, call_keeps_children, CallsWorld, CommandCalls}
use Rattle.kt_child.specs.Driving.DriverState.{driver_state_of}
use Rattle.kt_child.specs.Driving.Runs.{RunsFrom}
use Rattle.kt_child.proofs.TraceRuns.{ends_follow}
use Rattle.kt_os.specs.declared.system.os.Os as system
use Rattle.kt_os.specs.declared.machine.host_files.HostFiles as machine

module _ {M O : Type 0} (m : machine.Ghosts M) (o : system.Ghosts O) where
  -- a sequence of world calls does not change which children run
  all_running_kept : (qs : List WorldCall) (old new : HostWorld M O) → Chain (WorldLeads (IsFileCall m.answers) (IsHostReply m.answers o.leads)) old qs new → new.driver.running ≡ old.driver.running
  all_running_kept [] old new h = ap (λ (w : HostWorld M O). w.driver.running) h
  all_running_kept (CallToTree asked ∷ qs) old new h = all_running_kept qs h.0 new h.2 ∙ file_call_keeps_children m.answers old h.0 asked h.1
  all_running_kept (CallToHost answer ∷ qs) old new h = all_running_kept qs h.0 new h.2 ∙ call_keeps_children m.answers o.leads old h.0 answer h.1

  -- the launcher's calls of a command, from a driver without running children, are those of the
  -- trace
  pub courses_by_trace : (seen : CommandCalls) (old new : HostWorld M O) (course : CallsWorld (host_world m o) seen old new) → old.driver.running ≡ idle_state
      → RunsFrom o.leads seen.plan seen.trace (driver_state_of idle_state course.begun.driver.next) course.begun.driver new.driver
  courses_by_trace seen old new course none =
      let d = course.begun.driver in
      let P : ChildrenState → Type 0 = λ b. RunsFrom o.leads seen.plan seen.trace (driver_state_of b d.next) d new.driver in
      subst P (all_running_kept seen.world_calls old course.begun course.asked ∙ none)
      (ends_follow o.leads (λ (w : HostWorld M O). w.driver) _ _ (λ d e job role answer h. h.0) (λ d e ended h. h.0) seen.plan seen.trace course.begun new course.ran)
