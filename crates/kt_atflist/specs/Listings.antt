-- Results of listings: cases, or the reason why a listing can't be used.
use Rattle.std.specs.Prelude.{◌≡◌, ℕ, ◌==◌, if◌then◌else◌, List, Option, Some, None, Result, Ok, Err}
use Rattle.kt_base.specs.declared.no_memory.NoMemory.{NoMemory}
use Rattle.kt_base.specs.declared.child.Outcome.{Outcome}
use Rattle.kt_base.specs.declared.child.Outcome.TheVariants.{Exited, Signaled, TimedOut, WaitFailed}
use Rattle.kt_base.specs.declared.phrase.Phrase.{Phrase}
use Rattle.kt_base.specs.declared.phrase.Phrase.TheVariants.{ListTimedOut, ListNotWaitedFor, NoList, ListUnreadable, ListTooLong, ListBadHeader, ListBadLine, ListNoIdent, ListRepeatedKey, ListRepeatedIdent, ListUnknownKey, ListBadValue, ListEmpty, ListNotUtf8}
use Rattle.kt_base.specs.declared.verdict.Reason.{Reason}
use Rattle.kt_base.specs.declared.verdict.Reason.TheVariants.{Fixed, Ended, Counted}
use Rattle.kt_base.specs.declared.failed_start.Refused.{Refused}
use Rattle.kt_base.specs.Reasons.{refused_reason}
use Rattle.kt_atflist.specs.declared.listing.ListBytes.{ListBytes}
use Rattle.kt_atflist.specs.declared.listing.ListBytes.TheVariants as bytes
use Rattle.kt_atflist.specs.declared.list_fault.ListCause.{ListCause}
use Rattle.kt_atflist.specs.declared.list_fault.ListCause.TheVariants as cause
use Rattle.kt_atflist.specs.declared.list_fault.ListCause.TheVariants.{BadHeader, BadLine, NoIdent, RepeatedKey, RepeatedIdent, UnknownKey, BadValue, EmptyList, NotUtf8}
use Rattle.kt_atflist.specs.declared.list_fault.ListFault.{ListFault}
use Rattle.kt_atflist.specs.declared.listing.CaseDef.{CaseDef}
use Rattle.kt_atflist.specs.declared.listing.Listing.{Listing}
use Rattle.kt_atflist.specs.declared.listing.Listing.TheVariants as listing
use Rattle.kt_atflist.specs.CaseList.{IsListText, HasFault}

-- `list_failure_reason outcome`: the reason why a program that ended with the outcome `outcome` did
-- not list its cases, or nothing if it exited with 0.
abbrev pub list_failure_reason : Outcome → Option Reason
list_failure_reason TimedOut = Some (Fixed ListTimedOut)
list_failure_reason WaitFailed = Some (Fixed ListNotWaitedFor)
list_failure_reason (Exited code) = if code == 0 then None else Some (Ended NoList (Exited code))
list_failure_reason (Signaled signal core) = Some (Ended NoList (Signaled signal core))

-- `fault_phrase cause`: the message of a list's fault with the cause `cause`, without the number of
-- the line. If the cause is a failed allocation, there is no message, and the result is the error
-- `NoMemory`.
abbrev pub fault_phrase : ListCause → Result Phrase NoMemory
fault_phrase (cause.NoMemory refusal) = Err refusal
fault_phrase BadHeader = Ok ListBadHeader
fault_phrase BadLine = Ok ListBadLine
fault_phrase NoIdent = Ok ListNoIdent
fault_phrase RepeatedKey = Ok ListRepeatedKey
fault_phrase RepeatedIdent = Ok ListRepeatedIdent
fault_phrase UnknownKey = Ok ListUnknownKey
fault_phrase BadValue = Ok ListBadValue
fault_phrase EmptyList = Ok ListEmpty
fault_phrase NotUtf8 = Ok ListNotUtf8

-- `IsParsedList text found`: `found` is the result of parsing the bytes `text` as a list of test
-- cases. It has the cases of the list, or is the reason why `text` isn't a list.
pub data IsParsedList (text : List ℕ) : Result (List CaseDef) Reason → Type 0 where
  no_list : (fault : ListFault) (phrase : Phrase) → HasFault text fault → fault_phrase fault.cause ≡ Ok phrase → IsParsedList text (Err (Counted phrase fault.line 0))
  listed : (cases : List CaseDef) → IsListText text cases → IsParsedList text (Ok cases)

-- `IsListingResult listing found`: `listing` is the result of running a program to list its cases.
-- `found` has these cases, or is the reason why `listing` can't be used.
pub data IsListingResult : Listing → Result (List CaseDef) Reason → Type 0 where
  unstarted : (refused : Refused) → IsListingResult (listing.Refused refused) (Err (refused_reason refused))
  unlisted : (outcome : Outcome) (bytes : ListBytes) (reason : Reason) → list_failure_reason outcome ≡ Some reason → IsListingResult (listing.Ended outcome bytes) (Err reason)
  unreadable : (outcome : Outcome) → list_failure_reason outcome ≡ None → IsListingResult (listing.Ended outcome bytes.Unreadable) (Err (Fixed ListUnreadable))
  too_long : (outcome : Outcome) → list_failure_reason outcome ≡ None → IsListingResult (listing.Ended outcome bytes.TooLong) (Err (Fixed ListTooLong))
  read : (outcome : Outcome) (text : List ℕ) (found : Result (List CaseDef) Reason) → list_failure_reason outcome ≡ None → IsParsedList text found
      → IsListingResult (listing.Ended outcome (bytes.Read text)) found
