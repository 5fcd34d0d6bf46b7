-- The requirements of a case, one by one.
use Rattle.std.specs.Prelude.{◌≡◌, ℕ, Bool, true, false, not, nat_lt, ◌==◌, ◌||◌, bytes_eq, codes, length, List, [], ◌∷◌, ◌++◌, Option, Some, None, if◌then◌else◌}
use Rattle.std.specs.List.{list_any, find}
use Rattle.std.specs.Option.{option_map}
use Rattle.std.specs.BTreeSet.{contains_text}
use Rattle.kt_base.specs.Utf8.{utf8}
use Rattle.kt_base.specs.Reasons.{counted_text, reason_text}
use Rattle.kt_base.specs.declared.verdict.Reason.{Reason}
use Rattle.kt_base.specs.declared.phrase.Phrase.{Phrase}
use Rattle.kt_base.specs.declared.phrase.Phrase.TheVariants.{MemoryNeeded, DiskNeeded}
use Rattle.kt_config.specs.Values.{Values}
use Rattle.kt_metadata.specs.declared.meta.Meta.{Meta}
use Rattle.kt_metadata.specs.declared.host.Need.{Need}
use Rattle.kt_metadata.specs.declared.host.Need.TheVariants.{File, Program}
use Rattle.kt_metadata.specs.declared.host.Host.{Host}
use Rattle.kt_metadata.specs.declared.value.RequiredUser.{RequiredUser}
use Rattle.kt_metadata.specs.declared.value.RequiredUser.TheVariants.{Root, Unprivileged}
use Rattle.kt_metadata.specs.Configured.{is_undefined, architecture_of, platform_of}

-- `text_in reason`: the text of the optional reason `reason`, or nothing if it is absent.
abbrev pub text_in : Option Reason → Option (List ℕ)
text_in reason = option_map reason_text reason

-- `enclosed_text front back word`: the optional text `word` between the texts `front` and `back`,
-- or nothing if `word` is absent.
abbrev pub enclosed_text : List ℕ → List ℕ → Option (List ℕ) → Option (List ℕ)
enclosed_text front back word = option_map (λ w. front ++ (w ++ back)) word

-- `is_allowed listed word`: the list `listed` of allowed values allows `word`: the list is empty or
-- contains `word`.
abbrev pub is_allowed : List (List ℕ) → List ℕ → Bool
is_allowed listed word = length listed == 0 || list_any (λ w. bytes_eq w word) listed

-- `config_reason_text meta config suite`: the reason to skip a case of the test suite `suite` with
-- the properties `meta`. It names the first required variable that the configuration `config`
-- doesn't define for `suite`. Nothing if `config` defines all of them.
abbrev pub config_reason_text : Meta → Values → List ℕ → Option (List ℕ)
config_reason_text meta config suite =
    enclosed_text (codes "Required configuration property '") (codes "' not defined")
    (find (is_undefined config suite) meta.required_configs)

-- `unsupported_reason_text front listed word`: the reason to skip a case because the list `listed`
-- of allowed values doesn't allow `word`, or nothing if the list allows `word`. The reason begins
-- with the text `front`.
abbrev pub unsupported_reason_text : List ℕ → List (List ℕ) → List ℕ → Option (List ℕ)
unsupported_reason_text front listed word = if is_allowed listed word then None else Some (front ++ (word ++ codes "' not supported"))

-- `architecture_reason_text meta config`: the reason to skip a case because its properties `meta`
-- don't allow the architecture of the configuration `config`, or nothing if they allow it.
abbrev pub architecture_reason_text : Meta → Values → Option (List ℕ)
architecture_reason_text meta config = unsupported_reason_text (codes "Current architecture '") meta.allowed_architectures (architecture_of config)

-- `platform_reason_text meta config`: the reason to skip a case because its properties `meta` don't
-- allow the platform of the configuration `config`, or nothing if they allow it.
abbrev pub platform_reason_text : Meta → Values → Option (List ℕ)
platform_reason_text meta config = unsupported_reason_text (codes "Current platform '") meta.allowed_platforms (platform_of config)

-- `user_reason_text user root`: the reason to skip a case because the test runner doesn't run as
-- the required user `user`, or nothing if it does. `root` is true if the test runner runs as root.
abbrev pub user_reason_text : RequiredUser → Bool → Option (List ℕ)
user_reason_text Root false = Some (codes "Requires root privileges")
user_reason_text Unprivileged true = Some (codes "Requires an unprivileged user")
user_reason_text user root = None

-- `all_needs`: all kinds of required objects, in the order in which the host is searched for them.
abbrev pub all_needs : List Need
all_needs = File ∷ Program ∷ []

-- `required_objects need meta`: the objects of the kind `need`, files or programs, that the
-- properties `meta` of a case require on the host.
abbrev pub required_objects : Need → Meta → List (List ℕ)
required_objects File meta = meta.required_files
required_objects Program meta = meta.required_programs

-- `is_found need host word`: the required file or program `word`, of the kind `need`, was found on
-- the host `host`.
abbrev pub is_found : Need → Host → List ℕ → Bool
is_found File host word = contains_text host.files (utf8 word)
is_found Program host word = contains_text host.programs (utf8 word)

-- `is_same_need need word other_need other`: the object `word` of the kind `need` and the object
-- `other` of the kind `other_need` are the same required file or program.
abbrev pub is_same_need : Need → List ℕ → Need → List ℕ → Bool
is_same_need File path File other = bytes_eq (utf8 path) (utf8 other)
is_same_need Program name Program other = bytes_eq (utf8 name) (utf8 other)
is_same_need need word other_need other = false

-- `RecordsAsFound need word old new`: the host `new` is the host `old` with `word` added to the
-- objects of the kind `need` that were found.
pub record RecordsAsFound (need : Need) (word : List ℕ) (old new : Host) : Type 0 where
  pub found : (other_need : Need) (other : List ℕ) → is_found other_need new other ≡ (is_found other_need old other || is_same_need need word other_need other)
  pub root : new.root ≡ old.root
  pub memory : new.memory ≡ old.memory
  pub disk : new.disk ≡ old.disk

-- `need_text need`: the beginning of the message that an object of the kind `need` is missing. The
-- message is the reason to skip a case.
abbrev pub need_text : Need → List ℕ
need_text File = codes "Required file '"
need_text Program = codes "Required program '"

-- `need_reason_text need meta host`: the reason to skip a case with the properties `meta`. It names
-- the first required object of the kind `need` that wasn't found on the host `host`. Nothing if all
-- were found.
abbrev pub need_reason_text : Need → Meta → Host → Option (List ℕ)
need_reason_text need meta host = enclosed_text (need_text need) (codes "' not found") (find (λ word. not (is_found need host word)) (required_objects need meta))

-- `amount_reason_text phrase required available`: the reason to skip a case that requires
-- `required` bytes, because the host has only `available` bytes. The reason has the message
-- `phrase`. Nothing if `available` is enough or unknown.
abbrev pub amount_reason_text : Phrase → ℕ → Option ℕ → Option (List ℕ)
amount_reason_text phrase required None = None
amount_reason_text phrase required (Some available) =
    if nat_lt available required then Some (counted_text phrase required available) else None

-- `host_reason_texts meta host`: for each requirement of the properties `meta` on the host `host`,
-- the reason why the requirement isn't met, or nothing if it is met. The order is user, files,
-- programs, memory, disk.
abbrev pub host_reason_texts : Meta → Host → List (Option (List ℕ))
host_reason_texts meta host =
    user_reason_text meta.required_user host.root ∷ need_reason_text File meta host ∷ need_reason_text Program meta host
    ∷ amount_reason_text MemoryNeeded meta.required_memory host.memory
    ∷ amount_reason_text DiskNeeded meta.required_disk_space host.disk ∷ []

-- `requirement_reason_texts meta config suite host`: for each of the eight requirements of a case,
-- the reason why the requirement isn't met, or nothing if it is met. The list is in the order of
-- the checks. The case has the properties `meta` and belongs to the test suite `suite`. `config` is
-- the configuration, and `host` is the host.
abbrev pub requirement_reason_texts : Meta → Values → List ℕ → Host → List (Option (List ℕ))
requirement_reason_texts meta config suite host =
    config_reason_text meta config suite ∷ architecture_reason_text meta config
    ∷ platform_reason_text meta config ∷ host_reason_texts meta host

-- `first_reason rows`: the first reason that is present in the list `rows` of optional reasons, or
-- nothing if all are absent.
abbrev pub first_reason : List (Option (List ℕ)) → Option (List ℕ)
first_reason [] = None
first_reason (None ∷ rest) = first_reason rest
first_reason (Some reason ∷ rest) = Some reason
