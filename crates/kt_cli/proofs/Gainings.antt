-- The execution of a plan for `test`: entries are recorded and printed one at a time.
use Rattle.std.proofs.Common.{Option, Result, Ok, Err, count_by, take, ◌==◌, ◌≤◌, ◌≡◌, ℕ, Bool, List, [], ◌∷◌, ◌++◌, length, refl, sym, ap, ◌∙◌, subst, append-nil}
use Rattle.std.proofs.Math.Seq.{take-length}
use Rattle.kt_cli.proofs.Common.{Entry, line_bytes, Job, SinkFault, Totals, RunFault, NoMemory, SinkFailed, PutsInOrder, AreEntries, recorded, EndsAs, Trace, StoreCall, Put, WritesNext, RecordsEntry, Recording, IsRecordingResult, CallsStore, put_calls, lines}
use Rattle.kt_store.specs.declared.result_store.StoreSpec as keeping
use Rattle.kt_cli.proofs.Saying.{says_both, says_nothing}
use Rattle.kt_cli.proofs.StoreChains.{stored_none, stored_both, stored_as}

-- if there are as many entries as positions, the entries of the first positions are those of all
pub all_entries : (plan : List Job) (T : Trace) (positions : List ℕ) (es : List Entry) → length es ≡ length positions → AreEntries plan T (take (length es) positions) es → AreEntries plan T positions es
all_entries plan T positions es e a = subst (λ (ps : List ℕ). AreEntries plan T ps es) (ap (λ (n : ℕ). take n positions) e ∙ take-length positions) a

module _ {S R : Type 0} (keep : keeping.Ghosts R) (gives : S → Entry → Result (Unit {0}) SinkFault → S → Type 0) (state : S → Recording R) (name other : S → ℕ)
    (each : (s t : S) (e : Entry) (r : Result (Unit {0}) SinkFault) → gives s e r t → (name t ≡ name s) × (other t ≡ other s) × RecordsEntry keep (state s) e r (state t)) where
  -- `Gained es last s t`: from recorder `s` to `t`, the entries `es` were put and printed, and then
  -- the store calls `last` were made
  pub record Gained (es : List Entry) (last : List StoreCall) (s t : S) : Type 0 where
    pub same_store : name t ≡ name s
    pub same_out : other t ≡ other s
    pub same_number : (state t).number ≡ (state s).number
    pub stored : CallsStore keep (put_calls (state s).number es ++ last) (state s).store (state t).store
    pub written : WritesNext (state s).held (state s).failed (state t).held (state t).failed (lines es)

  -- a recorder that accepted the entries `es` has put and printed them
  pub gains_all : (es : List Entry) (s t : S) → PutsInOrder gives es s t → Gained es [] s t
  gains_all [] s t g =
      subst (λ (u : S). Gained [] [] s u) (sym g) (record { same_store = refl; same_out = refl; same_number = refl; stored = stored_none keep (state s).store; written = says_nothing (state s).held (state s).failed })
  gains_all (e ∷ es) s t g =
      let m = g.0 in
      let p = each s m e (Ok tt) g.1 in
      let r = gains_all es m t g.2 in
      record {
        same_store = r.same_store ∙ p.0;
        same_out = r.same_out ∙ p.1;
        same_number = r.same_number ∙ p.2.0;
        stored = stored_both keep (Put (state s).number e (Ok tt) ∷ []) (put_calls (state s).number es ++ []) (state s).store (state m).store (state t).store p.2.1
            (subst (λ (i : ℕ). CallsStore keep (put_calls i es ++ []) (state m).store (state t).store) p.2.0 r.stored);
        written = says_both (state s).held (state m).held (state t).held (state s).failed (state m).failed (state t).failed (line_bytes e) (lines es) p.2.2 r.written;
      }

  -- `Whole plan n T es answer s t`: from recorder `s` to `t`, the entries `es` were put and
  -- printed. `plan` with the trace `T` at width `n` ended with the result `answer`.
  pub record Whole (plan : List Job) (n : ℕ) (T : Trace) (es : List Entry) (answer : Result Totals RunFault) (s t : S) : Type 0 where
    pub last : List StoreCall
    pub gained : Gained es last s t
    pub ends : IsRecordingResult plan n (state s).number T es last answer

  -- a plan that is executed with a recorder meets `Whole`
  pub whole : (plan : List Job) (n : ℕ) (T : Trace) (es : List Entry) (answer : Result Totals RunFault) (s t : S) → AreEntries plan T (take (length es) (recorded plan n T)) es → ((i : ℕ) → count_by (λ p. p == i) (recorded plan n T) ≤ 1) → EndsAs gives plan n T es s t answer → Whole plan n T es answer s t
  whole plan n T es (Ok totals) s t a o e = record {
    last = [];
    gained = gains_all es s t e.gains;
    ends = record { all = record { legal = e.legal; once = e.once; are = all_entries plan T (recorded plan n T) es (e.all ∙ sym e.once.all) a }; counts = e.counts; taken = refl };
  }
  whole plan n T es (Err (NoMemory refusal)) s t a o e = record {
    last = [];
    gained = gains_all es s t (subst (λ (xs : List Entry). PutsInOrder gives xs s t) (sym e.entries) e.same);
    ends = record { events = e.events; none = e.entries; taken = refl };
  }
  whole plan n T es (Err (SinkFailed fault)) s t a o e =
      let f = e.failed in
      let g = gains_all es s f.mid f.gains in
      let p = each f.mid t f.refused (Err fault) f.fails in
      let why = p.2.1.0 in
      record {
        last = Put (state s).number f.refused (Err why) ∷ [];
        gained = record {
          same_store = p.0 ∙ g.same_store;
          same_out = p.1 ∙ g.same_out;
          same_number = p.2.0 ∙ g.same_number;
          stored = stored_both keep (put_calls (state s).number es) (Put (state s).number f.refused (Err why) ∷ []) (state s).store (state f.mid).store (state t).store
              (stored_as keep (put_calls (state s).number es ++ []) (put_calls (state s).number es) (state s).store (state f.mid).store (append-nil (put_calls (state s).number es)) g.stored)
              (subst (λ (i : ℕ). CallsStore keep (Put i f.refused (Err why) ∷ []) (state f.mid).store (state t).store) g.same_number p.2.1.2);
          written = subst (λ (b : Bool). WritesNext (state s).held (state s).failed (state t).held b (lines es)) (sym p.2.2)
              (subst (λ (o : Option (List ℕ)). WritesNext (state s).held (state s).failed o (state f.mid).failed (lines es)) (sym p.2.3) g.written);
        };
        ends = record { entry = f.refused; refusal = why; fault_is = p.2.1.1; one = refl; stopped = record { due = f.next; next = f.is_next; refused_is = f.refused_is; are = a; once = o; stopped = e.stopped } };
      }
