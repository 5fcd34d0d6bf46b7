-- Attaching the tables of a database, by the database's state before.
use Rattle.kt_store.proofs.Common.{Blank, Schema2, Ghosts, HasCleanDisk, IsNotBlank, HasTables, Held, HasNoTables, IsLive, Describes, IsDatabaseFault, IsTrue, IsUnchanged, IsSchema2Of, List, Numbered, IsSchema1Database, Schema1, AttachFails, IsUnchangedOrRolledBack, Run, StoresSchemaNumber, RepresentsInSchema1, State, StoreFault, Survives, IsSchema2Database, AttachSucceeds, Trees, InitialDatabase, [], arith, inl, inr, no_schema, pos, refl, state, survives_then, survives_weaker, ℤ, ⊤, ◌≡◌, ◌≢◌, ◌⊎◌}
use Rattle.kt_store.proofs.StepLemmas.{rests_hold, rests_then, outlives, either_left, leaves_held}
use Rattle.kt_store.proofs.MetaLemmas.{says_one, says_two, says_filled, empty_blank, still_holds, still_says}
use Rattle.kt_store.proofs.AskLemmas.{tables_before}

one_is_not_two : pos 1 ≢ pos 2
one_is_not_two e = cc

two_is_not_one : pos 2 ≢ pos 1
two_is_not_one e = cc

-- the schema number of a database in the state `InitialDatabase`; 0 without tables
abbrev pub number_of : InitialDatabase → ℤ
number_of Blank = pos 0
number_of (Schema2 runs) = pos 2
number_of (Schema1 runs) = pos 1
number_of (Numbered n) = n

pub says_of : (was : InitialDatabase) (s : State) → IsNotBlank was → Describes was s → StoresSchemaNumber (number_of was) s
says_of Blank s has is = absurd has
says_of (Schema2 runs) s has is = says_two s runs is
says_of (Schema1 runs) s has is = says_one s runs is
says_of (Numbered n) s has is = is

-- `HasFault was fault`: an attempt to attach a database in the state `was` may fail with `fault`
abbrev pub HasFault : InitialDatabase → StoreFault → Type 0
HasFault (Numbered n) fault = ⊤
HasFault _ fault = IsDatabaseFault fault

pub all_due : (was : InitialDatabase) (fault : StoreFault) → IsDatabaseFault fault → HasFault was fault
all_due (Numbered n) fault h = tt
all_due _ fault h = h

pub known_due : (was : InitialDatabase) (fault : StoreFault) → IsNotBlank was → ((number_of was ≡ pos 1) ⊎ (number_of was ≡ pos 2) → IsDatabaseFault fault) → HasFault was fault
known_due Blank fault has h = absurd has
known_due (Schema2 runs) fault has h = h (inr refl)
known_due (Schema1 runs) fault has h = h (inl refl)
known_due (Numbered n) fault has h = tt

-- attaching while the disk is not clean: the relations hold trivially
module _ (old new : State) (never : ¬ HasCleanDisk new) (nothing : Survives old new (λ (db : Trees). ⊥)) where
  more : (P : Trees → Type 0) → Survives old new P
  more P = survives_weaker old new (λ _. ⊥) P (λ _ db none. absurd none) nothing

  never_takes : (was : InitialDatabase) → AttachSucceeds was old new
  never_takes Blank = (λ clean opened. absurd (never clean), λ clean trees may. absurd (never clean), more (IsSchema2Of []))
  never_takes (Schema2 runs) = (λ clean opened. absurd (never clean), λ clean trees may. absurd (never clean), nothing)
  never_takes (Schema1 runs) = (λ clean opened. absurd (never clean), λ clean trees may. absurd (never clean), more (IsSchema2Of runs))
  never_takes (Numbered n) = λ clean. absurd (never clean)

  never_refuses : (fault : StoreFault) (was : InitialDatabase) → AttachFails was old new fault
  never_refuses fault Blank = (λ clean opened. absurd (never clean), more (IsSchema2Of []), λ clean. absurd (never clean))
  never_refuses fault (Schema2 runs) = (λ clean opened. absurd (never clean), nothing, λ clean. absurd (never clean), λ opened clean trees may. absurd (never clean))
  never_refuses fault (Schema1 runs) = (λ clean opened. absurd (never clean), more (IsSchema2Of runs), λ clean. absurd (never clean), λ opened clean trees may. absurd (never clean))
  never_refuses fault (Numbered n) = λ other. (λ clean. absurd (never clean), nothing)

-- a check that leaves the database unchanged, followed by a call that creates or migrates tables
module _ (old mid new : State) (first : Survives old mid (λ (db : Trees). ⊥)) (same : HasCleanDisk mid → IsUnchanged old mid) where
  earlier : HasCleanDisk mid → HasCleanDisk old
  earlier clean = omega (arith, clean, first.clean)

  still_of : (was : InitialDatabase) → Describes was old → Describes was mid
  still_of Blank is = still_holds old mid earlier same (λ db. db.schema ≡ no_schema) is
  still_of (Schema2 runs) is = still_holds old mid earlier same (λ db. IsSchema2Database db runs) is
  still_of (Schema1 runs) is = still_holds old mid earlier same (λ db. IsSchema1Database db runs) is
  still_of (Numbered n) is = still_says old mid earlier same n is

  after : (P : Trees → Type 0) → Survives mid new P → Survives old new P
  after P then = survives_then old mid new (λ _. ⊥) P P (λ _ db none. absurd none) (λ _ db it. it) first then

  module _ (early : HasCleanDisk new → HasCleanDisk mid) where
    takes_after : (was : InitialDatabase) → AttachSucceeds was mid new → AttachSucceeds was old new
    takes_after Blank t = (t.0, t.1, after (IsSchema2Of []) t.2)
    takes_after (Schema2 runs) t = (t.0, t.1, after (λ _. ⊥) t.2)
    takes_after (Schema1 runs) t = (t.0, t.1, after (IsSchema2Of runs) t.2)
    takes_after (Numbered n) t = λ clean. let it = t clean in (it.0, tables_before old mid n (same (early clean)) it.1)

    refuses_after : (fault : StoreFault) (was : InitialDatabase) → AttachFails was mid new fault → AttachFails was old new fault
    refuses_after fault Blank r = (r.0, after (IsSchema2Of []) r.1, r.2)
    refuses_after fault (Schema2 runs) r = (r.0, after (λ _. ⊥) r.1, r.2, λ opened clean trees may. r.3 (same (early clean)).0.is_open clean trees may)
    refuses_after fault (Schema1 runs) r = (r.0, after (IsSchema2Of runs) r.1, r.2, λ opened clean trees may. r.3 (same (early clean)).0.is_open clean trees may)
    refuses_after fault (Numbered n) r = λ other. let it = r other in (λ clean. rests_then old mid new (same (early clean)) (it.0 clean), after (λ _. ⊥) it.1)

    -- the state before is impossible, since the check found another state: the relations hold
    -- trivially
    module _ (P : Trees → Type 0) (never : ¬ HasCleanDisk mid) (then : Survives mid new P) where
      nothing : Survives old new (λ (db : Trees). ⊥)
      nothing = survives_then old mid new (λ _. ⊥) P (λ _. ⊥) (λ _ db none. none) (λ clean db it. absurd (never (early clean))) first then

      not_taken : (was : InitialDatabase) → AttachSucceeds was old new
      not_taken was = never_takes old new (λ clean. never (early clean)) nothing was

      not_refused : (fault : StoreFault) (was : InitialDatabase) → AttachFails was old new fault
      not_refused fault was = never_refuses old new (λ clean. never (early clean)) nothing fault was

    -- the check found no tables, so tables are created
    module _ (blank : mid.now.schema.tables ≡ []) where
      filled : (was : InitialDatabase) → IsNotBlank was → Describes was old → ¬ HasCleanDisk mid
      filled was has is clean = says_filled old mid earlier same (number_of was) (says_of was old has is) clean blank

      none : (was : InitialDatabase) → IsNotBlank was → Describes was old → HasNoTables mid
      none was has is clean opened = absurd (filled was has is clean)

      pub create_takes : (HasNoTables mid → AttachSucceeds Blank mid new) → (was : InitialDatabase) → Describes was old → AttachSucceeds was old new
      create_takes t Blank is = takes_after Blank (t (still_of Blank is))
      create_takes t was is = not_taken (IsSchema2Of []) (filled was tt is) (t (none was tt is)).2 was

      pub create_refuses : (fault : StoreFault) → (HasNoTables mid → AttachFails Blank mid new fault) → (was : InitialDatabase) → Describes was old → AttachFails was old new fault
      create_refuses fault r Blank is = refuses_after fault Blank (r (still_of Blank is))
      create_refuses fault r was is = not_refused (IsSchema2Of []) (filled was tt is) (r (none was tt is)).1 fault was

    -- the check found tables, so they are accepted or migrated
    module _ (filled : mid.now.schema.tables ≢ []) where
      empty_never : HasNoTables old → ¬ HasCleanDisk mid
      empty_never is clean = filled (empty_blank old mid earlier same is clean)

      pub take_takes : ((was : InitialDatabase) → IsNotBlank was → Describes was mid → AttachSucceeds was mid new) → (was : InitialDatabase) → Describes was old → AttachSucceeds was old new
      take_takes t Blank is = not_taken (λ _. ⊥) (empty_never is) (t (Schema2 []) tt (λ clean opened. absurd (empty_never is clean))).2 Blank
      take_takes t was is = takes_after was (t was tt (still_of was is))

      pub take_refuses : (fault : StoreFault) → ((was : InitialDatabase) → IsNotBlank was → Describes was mid → AttachFails was mid new fault) → (was : InitialDatabase) → Describes was old → AttachFails was old new fault
      take_refuses fault r Blank is = not_refused (λ _. ⊥) (empty_never is) (r (Schema2 []) tt (λ clean opened. absurd (empty_never is clean))).1 fault Blank
      take_refuses fault r was is = refuses_after fault was (r was tt (still_of was is))

    -- the check found the schema number 1, so the tables are migrated
    none_older : ¬ HasCleanDisk mid → RepresentsInSchema1 mid []
    none_older never clean opened = absurd (never clean)

    pub renew_takes : ((runs : List Run) → RepresentsInSchema1 mid runs → AttachSucceeds (Schema1 runs) mid new) → (was : InitialDatabase) → IsNotBlank was → (HasCleanDisk mid → number_of was ≡ pos 1) → (HasCleanDisk mid → HasTables (number_of was) old) → Describes was old
        → AttachSucceeds was old new
    renew_takes t Blank has one tables is = absurd has
    renew_takes t (Schema2 runs) has one tables is = let never : ¬ HasCleanDisk mid = λ clean. two_is_not_one (one clean) in not_taken (IsSchema2Of []) never (t [] (none_older never)).2 (Schema2 runs)
    renew_takes t (Schema1 runs) has one tables is = takes_after (Schema1 runs) (t runs (still_of (Schema1 runs) is))
    renew_takes t (Numbered n) has one tables is = λ clean. (inl (one (early clean)), tables (early clean))

    pub renew_refuses : (fault : StoreFault) → ((runs : List Run) → RepresentsInSchema1 mid runs → AttachFails (Schema1 runs) mid new fault) → (was : InitialDatabase) → IsNotBlank was → (HasCleanDisk mid → number_of was ≡ pos 1) → Describes was old → AttachFails was old new fault
    renew_refuses fault r Blank has one is = absurd has
    renew_refuses fault r (Schema2 runs) has one is = let never : ¬ HasCleanDisk mid = λ clean. two_is_not_one (one clean) in not_refused (IsSchema2Of []) never (r [] (none_older never)).1 fault (Schema2 runs)
    renew_refuses fault r (Schema1 runs) has one is = refuses_after fault (Schema1 runs) (r runs (still_of (Schema1 runs) is))
    renew_refuses fault r (Numbered n) has one is = λ other. let never : ¬ HasCleanDisk mid = λ clean. other (one clean) in not_refused (IsSchema2Of []) never (r [] (none_older never)).1 fault (Numbered n) other

-- a check without a later call
module _ {S : Type 0} (g : Ghosts S) (old new : Held S) (law : (db : Trees) → IsTrue (state g old).is_open → (state g old).may_leave db → db ≡ (state g old).committed.trees) (live : IsLive (state g old))
    (nothing : Survives (state g old) (state g new) (λ (db : Trees). ⊥)) where
  was_clean : HasCleanDisk (state g new) → HasCleanDisk (state g old)
  was_clean clean = omega (arith, clean, nothing.clean)

  weaker : (P : Trees → Type 0) → Survives (state g old) (state g new) P
  weaker P = survives_weaker (state g old) (state g new) (λ _. ⊥) P (λ _ db none. absurd none) nothing

  -- if the check failed, attaching failed
  pub look_refuses : (fault : StoreFault) → (HasCleanDisk (state g new) → IsUnchangedOrRolledBack (state g old) (state g new)) → (was : InitialDatabase) → (HasCleanDisk (state g new) → HasFault was fault) → Describes was (state g old) → AttachFails was (state g old) (state g new) fault
  look_refuses fault left Blank due is = (rests_hold (λ db. db.schema ≡ no_schema) (state g old) (state g new) is was_clean left, weaker (IsSchema2Of []), due)
  look_refuses fault left (Schema2 runs) due is = (
    rests_hold (λ db. IsSchema2Database db runs) (state g old) (state g new) is was_clean left,
    nothing,
    due,
    λ opened. outlives (state g old) (state g new) (IsSchema2Of runs) nothing (leaves_held g old law (λ db. IsSchema2Database db runs) live is opened),
  )
  look_refuses fault left (Schema1 runs) due is = (
    rests_hold (λ db. IsSchema1Database db runs) (state g old) (state g new) is was_clean left,
    weaker (IsSchema2Of runs),
    due,
    λ opened. either_left (state g old) (state g new) runs (weaker (IsSchema2Of runs)) (leaves_held g old law (λ db. IsSchema1Database db runs) live is opened),
  )
  look_refuses fault left (Numbered n) due is = λ other. (left, nothing)

  -- if the check found schema 2, attaching succeeded
  pub look_takes : (HasCleanDisk (state g new) → IsUnchanged (state g old) (state g new)) → (was : InitialDatabase) → IsNotBlank was → (HasCleanDisk (state g new) → number_of was ≡ pos 2) → (HasCleanDisk (state g new) → HasTables (number_of was) (state g old))
      → Describes was (state g old) → AttachSucceeds was (state g old) (state g new)
  look_takes same Blank has two tables is = absurd has
  look_takes same (Schema2 runs) has two tables is = (
    still_holds (state g old) (state g new) was_clean same (λ db. IsSchema2Database db runs) is,
    λ clean trees may. outlives (state g old) (state g new) (IsSchema2Of runs) nothing (leaves_held g old law (λ db. IsSchema2Database db runs) live is (same clean).0.was_open) clean trees may,
    nothing,
  )
  look_takes same (Schema1 runs) has two tables is = (λ clean opened. absurd (one_is_not_two (two clean)), λ clean trees may. absurd (one_is_not_two (two clean)), weaker (IsSchema2Of runs))
  look_takes same (Numbered n) has two tables is = λ clean. (inr (two clean), tables clean)
