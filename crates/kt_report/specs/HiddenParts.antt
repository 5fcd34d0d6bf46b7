-- Changes of the parts of entries that a report doesn't print.
use Rattle.std.specs.Prelude.{Bool, if◌then◌else◌, ◌≡◌, map}
use Rattle.kt_base.specs.declared.entry.Entry.{Entry}
use Rattle.kt_base.specs.declared.entry.Run.{Run}

-- `ChangesHiddenParts pairs change`: the function `change` changes only the outputs of an entry
-- and, if `pairs` is false, its properties. `pairs` is true if the report contains properties.
abbrev pub ChangesHiddenParts : Bool → (Entry → Entry) → Type 0
ChangesHiddenParts pairs change = (e : Entry) → change e ≡ record e { body = (change e).body; cleanup = (change e).cleanup; meta = if pairs then e.meta else (change e).meta }

-- `with_entries change run`: the run `run` with `change` applied to each entry.
abbrev pub with_entries : (Entry → Entry) → Run → Run
with_entries change run = record run { entries = map change run.entries }
