-- Reads for entries in order.
use Rattle.std.proofs.Common.{Result, Ok, List, [], ◌∷◌, ◌++◌}
use Rattle.kt_base.specs.declared.entry.Entry.{Entry}
use Rattle.kt_report.specs.Details.{ReadsDetails, none, more}

module _ {S F : Type 0} (reads : S → Entry → Result Entry F → S → Type 0) where
  -- The reads for some entries and then for others are the reads for all of them.
  pub filled_both : {old mid new : S} {xs ys shown others : List Entry} → ReadsDetails reads old xs shown mid → ReadsDetails reads mid ys others new → ReadsDetails reads old (xs ++ ys) (shown ++ others) new
  filled_both (none s) q = q
  filled_both {new = new} {ys = ys} {others = others} (more e full due shown old next mid one rest) q = more e full (due ++ ys) (shown ++ others) old next new one (filled_both rest q)

  pub filled_one : {old new : S} {e full : Entry} → reads old e (Ok full) new → ReadsDetails reads old (e ∷ []) (full ∷ []) new
  filled_one {old} {new} {e} {full} one = more e full [] [] old new new one (none new)
