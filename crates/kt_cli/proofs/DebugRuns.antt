-- The execution of a plan for `debug`: cases are run and printed one at a time.
use Rattle.std.proofs.Common.{Option, Result, Ok, Err, take, ◌≡◌, ℕ, Bool, List, [], ◌∷◌, length, refl, sym, ◌∙◌, subst}
use Rattle.kt_cli.proofs.Common.{Entry, Job, SinkFault, Totals, RunFault, NoMemory, SinkFailed, PutsInOrder, AreEntries, EndsAs, Trace, Prints, IsDebugResult, debug_bytes, all_debug_bytes, WritesNext}
use Rattle.kt_sched.specs.RecordOrder.{recorded as record_order}
use Rattle.kt_cli.proofs.Gainings.{all_entries}
use Rattle.kt_cli.proofs.Saying.{says_both, says_nothing}

module _ {S : Type 0} (gives : S → Entry → Result (Unit {0}) SinkFault → S → Type 0) (failed : S → Bool) (held : S → Option (List ℕ)) (name : S → ℕ)
    (each : (s t : S) (e : Entry) (r : Result (Unit {0}) SinkFault) → gives s e r t → (name t ≡ name s) × Prints (failed s) (held s) e r (failed t) (held t)) where
  -- `Printed es s t`: from printer `s` to `t`, with the same writer, the outputs and lines of the
  -- entries `es` were printed
  pub record Printed (es : List Entry) (s t : S) : Type 0 where
    pub same_out : name t ≡ name s
    pub written : WritesNext (held s) (failed s) (held t) (failed t) (all_debug_bytes es)

  -- `Ended plan T es answer s t`: from printer `s` to `t`, the entries `es` were printed, and
  -- `plan` with the trace `T` ended with the result `answer`
  pub record Ended (plan : List Job) (T : Trace) (es : List Entry) (answer : Result Totals RunFault) (s t : S) : Type 0 where
    pub printed : Printed es s t
    pub ends : IsDebugResult plan T es answer

  printed_all : (es : List Entry) (s t : S) → PutsInOrder gives es s t → Printed es s t
  printed_all [] s t g = subst (λ (u : S). Printed [] s u) (sym g) (record { same_out = refl; written = says_nothing (held s) (failed s) })
  printed_all (e ∷ es) s t g =
      let m = g.0 in
      let p = each s m e (Ok tt) g.1 in
      let r = printed_all es m t g.2 in
      record { same_out = r.same_out ∙ p.0; written = says_both (held s) (held m) (held t) (failed s) (failed m) (failed t) (debug_bytes e) (all_debug_bytes es) p.1.1 r.written }

  -- a plan that is executed for `debug` meets `Ended`
  pub debug_ends : (plan : List Job) (T : Trace) (es : List Entry) (answer : Result Totals RunFault) (s t : S) → AreEntries plan T (take (length es) (record_order plan 1 T)) es
      → EndsAs gives plan 1 T es s t answer → Ended plan T es answer s t
  debug_ends plan T es (Ok totals) s t a e = record {
    printed = printed_all es s t e.gains;
    ends = (record { legal = e.legal; once = e.once; are = all_entries plan T (record_order plan 1 T) es (e.all ∙ sym e.once.all) a }, e.counts);
  }
  debug_ends plan T es (Err (NoMemory refusal)) s t a e =
      record { printed = printed_all es s t (subst (λ (xs : List Entry). PutsInOrder gives xs s t) (sym e.entries) e.same); ends = (e.events, e.entries) }
  debug_ends plan T es (Err (SinkFailed fault)) s t a e =
      let never : ◌≡◌ {A = Result (Unit {0}) SinkFault} (Err fault) (Ok tt) = (each e.failed.mid t e.failed.refused (Err fault) e.failed.fails).1.0 in
      absurd cc
