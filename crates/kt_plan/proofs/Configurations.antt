-- Lemmas on the configuration of a command, one argument after the other.
use Rattle.std.proofs.Common.{Option, Some, None, Result, Ok, Err, IsErrAnd, ◌≡◌, ℕ, List, [], ◌∷◌, ◌++◌, refl, sym, ap, ◌∙◌, subst, append_assoc}
use Rattle.kt_plan.proofs.Common.{Definition, ConfigFault, Values, LeadsByCalls, HasConfiguration, HoldsOrNoMemory, IsNoMemoryError, finished, memory_ran_out, AppendsDefinitions, AppendsDefinition, HasValuesOf, config_read_error, Configures, IsReadPrefix, before_file, after_file, IsConfiguration, ReadsConfig, values_after, cons_result, defined, failed, missing, none, read, refused, seen, stopped, unread, argument_definition, argument_definitions, CaseOptions, Reply, ReadConfig, SelectionError}
use Rattle.kt_base.proofs.Lists.{error_is}
use Rattle.kt_base.specs.declared.no_memory.NoMemory.{NoMemory as OutOfMemory}
use Rattle.kt_config.specs.Holding.{HasValuesSetBy}
use Rattle.kt_plan.proofs.Chains.{answered-as, answered-once}
use Rattle.kt_plan.proofs.Stops.{error_as, held, ran_out}
use Rattle.kt_config.specs.Reading.{HasFault, IsConfigFile}
use Rattle.kt_plan.specs.Types.{Failed, Memory, Missing, ReadFault}
use Rattle.kt_plan.specs.declared.selection_error.SelectionError.TheVariants as stop

-- ---- arguments in order

-- A first definition can be moved to the end of the definitions before it.
values_after-cons_result : {A : Type 0} (before : List A) (one : A) (rest : Result (List A) SelectionError) → values_after before (cons_result (Ok one) rest) ≡ values_after (before ++ one ∷ []) rest
values_after-cons_result {A} before one (Ok more) = ap (λ (xs : List A). Ok xs) (sym (append_assoc before (one ∷ []) more))
values_after-cons_result before one (Err fault) = refl

-- ---- the configuration file

-- All calls for the configuration file can also be those before a failed allocation.
pub file_first : (path : Option (List ℕ)) (answers : List Reply) (meant : Result (List Definition) SelectionError) → ReadsConfig path answers meant → IsReadPrefix path answers
file_first _ _ _ none = before_file None
file_first _ _ _ (unread path fault u) = after_file path (Err fault)
file_first _ _ _ (seen path bytes meant c) = after_file path (Ok bytes)

-- All calls for the configuration can also be those before a failed allocation.
pub configuration_first : (options : CaseOptions) (answers : List Reply) (meant : Result (List Definition) SelectionError) → Configures options answers meant → IsReadPrefix options.config answers
configuration_first options answers _ (stopped fault r) = file_first options.config answers (Err fault) r
configuration_first options answers _ (defined before r) = file_first options.config answers (Ok before) r

-- A configuration file without an error gives its configuration.
pub read_config_file : (bytes : List ℕ) (config : Values) → IsConfigFile bytes config → HasConfiguration (IsConfiguration bytes) (Ok config)
read_config_file bytes config r = record { meant = Ok r.1; means = read r.0 r.1 r.2 r.3; gives = r.4 }

-- A configuration file with an error gives the error of the command.
pub refused_config_file : (bytes : List ℕ) (fault : ConfigFault) → HasFault bytes fault → HasConfiguration (IsConfiguration bytes) (Err (stop.Configuration fault))
refused_config_file bytes fault d = record { meant = Err (stop.Configuration fault); means = refused fault d; gives = refl }

-- Without a file, the configuration is empty.
pub none_given : (path : Option (List ℕ)) (config : Values) → path ≡ None → HasValuesSetBy config [] → HasConfiguration (ReadsConfig path []) (Ok config)
none_given path config e h = record { meant = Ok []; means = subst (λ (p : Option (List ℕ)). ReadsConfig p [] (Ok [])) (sym e) none; gives = h }

-- If a configuration is an error, its definitions are this error.
pub error_meant : (Means : Result (List Definition) SelectionError → Type 0) (fault : SelectionError) → HasConfiguration Means (Err fault) → Means (Err fault)
error_meant Means fault c = by c.meant c.means c.gives
  where
    by : (meant : Result (List Definition) SelectionError) → Means meant → HasValuesOf (Err fault) meant → Means (Err fault)
    by (Ok definitions) m g = absurd g
    by (Err f) m g = subst (λ (x : SelectionError). Means (Err x)) (sym g) m

module _ {W : Type 0} (replies : W → Reply → W → Type 0) (old new : W) where
  -- `Gives path Means outcome`: the calls for the optional configuration file at `path` gave
  -- `outcome`: the configuration or the error by `Means`, or the error of a failed allocation.
  abbrev pub Gives : Option (List ℕ) → (List Reply → Result (List Definition) SelectionError → Type 0) → Result Values SelectionError → Type 0
  Gives path Means outcome = LeadsByCalls replies old new (HoldsOrNoMemory IsNoMemoryError (IsReadPrefix path) (λ answers. HasConfiguration (Means answers)) outcome)

  -- `Reads path outcome`: `outcome` is the configuration of the optional file at `path`, the error
  -- of this file, or the error of a failed allocation.
  abbrev pub Reads : Option (List ℕ) → Result Values SelectionError → Type 0
  Reads path outcome = Gives path (ReadsConfig path) outcome

  -- `Configuration options outcome`: `outcome` is the configuration of a command with the options
  -- `options`, its first error, or the error of a failed allocation.
  abbrev pub Configuration : CaseOptions → Result Values SelectionError → Type 0
  Configuration options outcome = Gives options.config (Configures options) outcome

  -- A configuration file that can't be read gives the error of the command.
  pub file_unread : (path : List ℕ) (answer : Result (List ℕ) ReadFault) (fault : ReadFault) → replies old (ReadConfig path answer) new → answer ≡ Err fault → Reads (Some path) (Err (config_read_error fault))
  file_unread path answer fault t e =
      answered-once (ReadConfig path (Err fault)) (subst (λ (a : Result (List ℕ) ReadFault). replies old (ReadConfig path a) new) e t) (by fault)
    where
      by : (f : ReadFault) → HoldsOrNoMemory IsNoMemoryError (IsReadPrefix (Some path)) (λ answers. HasConfiguration (ReadsConfig (Some path) answers)) (Err (config_read_error f)) (ReadConfig path (Err f) ∷ [])
      by Missing = finished _ _ (record { meant = Err stop.UnreadableConfiguration; means = unread path Missing missing; gives = refl })
      by Failed = finished _ _ (record { meant = Err stop.UnreadableConfiguration; means = unread path Failed failed; gives = refl })
      by (Memory refusal) = memory_ran_out _ _ (refusal, refl) (after_file path (Err (Memory refusal)))

  -- An allocation may fail after the configuration file was read.
  pub file_short : (path : List ℕ) (answer : Result (List ℕ) ReadFault) (outcome : Result Values SelectionError) (refusal : OutOfMemory) → replies old (ReadConfig path answer) new
      → IsErrAnd outcome (λ e. e ≡ stop.NoMemory refusal) → Reads (Some path) outcome
  file_short path answer outcome refusal t s = answered-once (ReadConfig path answer) t (ran_out _ outcome refusal s (after_file path answer))

  -- The bytes of the configuration file give its outcome.
  pub file_seen : (path bytes : List ℕ) (answer : Result (List ℕ) ReadFault) (outcome : Result Values SelectionError) → replies old (ReadConfig path answer) new → answer ≡ Ok bytes
      → HasConfiguration (IsConfiguration bytes) outcome → Reads (Some path) outcome
  file_seen path bytes answer outcome t e c =
      answered-once (ReadConfig path (Ok bytes)) (subst (λ (a : Result (List ℕ) ReadFault). replies old (ReadConfig path a) new) e t)
      (finished _ _ (record { meant = c.meant; means = seen path bytes c.meant c.means; gives = c.gives }))

  -- The error of the configuration file is the error of the configuration.
  pub configured_not : (options : CaseOptions) (found outcome : Result Values SelectionError) (fault : SelectionError) → found ≡ Err fault → IsErrAnd outcome (λ e. e ≡ fault) → Reads options.config found
      → Configuration options outcome
  configured_not options found outcome fault e r a = error_is (Configuration options) outcome fault r (answered-as (subst (Reads options.config) e a)
      (λ answers. error_as (λ p. p) (λ c. record { meant = Err fault; means = stopped fault (error_meant (ReadsConfig options.config answers) fault c); gives = refl })))

  -- If `P` follows from the definitions of the configuration file, `P` holds of the calls.
  pub with_definitions : {found : Result Values SelectionError} {config : Values} {path : Option (List ℕ)} {P : List Reply → Type 0}
      (Means : List Reply → Result (List Definition) SelectionError → Type 0) → found ≡ Ok config → Gives path Means found
      → ((answers : List Reply) (definitions : List Definition) → Means answers (Ok definitions) → HasValuesOf (Ok config) (Ok definitions) → P answers) → LeadsByCalls replies old new P
  with_definitions {config = config} {path = path} {P = P} Means e a f = answered-as (subst (Gives path Means) e a) (λ answers h. let c = held h in meant answers c.meant c.means c.gives)
    where
      meant : (answers : List Reply) (m : Result (List Definition) SelectionError) → Means answers m → HasValuesOf (Ok config) m → P answers
      meant answers (Ok definitions) m g = f answers definitions m g
      meant answers (Err fault) m g = absurd g

  -- The arguments of `-v` follow the configuration file.
  pub configured_both : (options : CaseOptions) (found outcome : Result Values SelectionError) (config : Values) → found ≡ Ok config → AppendsDefinitions config outcome (argument_definitions options.variables) → Reads options.config found
      → Configuration options outcome
  configured_both options found outcome config e m a = with_definitions (ReadsConfig options.config) e a (λ answers before r g.
      finished _ _ (record { meant = values_after before (argument_definitions options.variables); means = defined before r; gives = m before g }))

  -- An allocation may fail after the configuration file.
  pub configured_short : (options : CaseOptions) (found outcome : Result Values SelectionError) (config : Values) (refusal : OutOfMemory) → found ≡ Ok config → IsErrAnd outcome (λ e. e ≡ stop.NoMemory refusal) → Reads options.config found
      → Configuration options outcome
  configured_short options found outcome config refusal e short a =
      with_definitions (ReadsConfig options.config) e a (λ answers before r g. ran_out answers outcome refusal short (file_first options.config answers (Ok before) r))

-- ---- the arguments of `-v`

-- `HasSet first config words rest`: the arguments of `words` before its suffix `rest` changed the
-- configuration from `first` to `config`.
pub record HasSet (first config : Values) (words rest : List (List ℕ)) : Type 0 where
  pub so_far : (before : List Definition) → HasValuesSetBy first before
      → (all : List Definition) × HasValuesSetBy config all × (values_after before (argument_definitions words) ≡ values_after all (argument_definitions rest))

-- The definition of an argument follows the definitions before it.
one_given : (before : List Definition) (next : Values) (m : Result Definition SelectionError) (rest : Result (List Definition) SelectionError) → HasValuesOf (Ok next) (values_after before (cons_result m (Ok [])))
    → (all : List Definition) × HasValuesSetBy next all × (values_after before (cons_result m rest) ≡ values_after all rest)
one_given before next (Ok d) rest g = (before ++ d ∷ [], g, values_after-cons_result before d rest)
one_given before next (Err fault) rest g = absurd g

-- If the next argument has a definition, `HasSet` holds after this argument.
pub one_set : (first config next : Values) (words rest after : List (List ℕ)) (word : List ℕ) → HasSet first config words rest → rest ≡ word ∷ after
    → AppendsDefinition config (Ok next) (argument_definition word) → HasSet first next words after
one_set first config next words rest after word s parts g = record {
  so_far = λ before h.
      let b = s.so_far before h in
      let o = one_given b.0 next (argument_definition word) (argument_definitions after) (g b.0 b.1) in
      (o.0, o.1, b.2 ∙ ap (λ (ws : List (List ℕ)). values_after b.0 (argument_definitions ws)) parts ∙ o.2);
}

-- The error of an argument is the first error, with any arguments after it.
refused_first : (before : List Definition) (fault : SelectionError) (m : Result Definition SelectionError) (rest : Result (List Definition) SelectionError) → HasValuesOf (Err fault) (values_after before (cons_result m (Ok [])))
    → HasValuesOf (Err fault) (values_after before (cons_result m rest))
refused_first before fault (Ok d) rest g = absurd g
refused_first before fault (Err other) rest g = g

-- The error of the next argument is the error of all arguments.
pub one_refused : (first config : Values) (words rest after : List (List ℕ)) (word : List ℕ) (fault : SelectionError) → HasSet first config words rest → rest ≡ word ∷ after
    → AppendsDefinition config (Err fault) (argument_definition word) → AppendsDefinitions first (Err fault) (argument_definitions words)
one_refused first config words rest after word fault s parts g = λ before h.
    let b = s.so_far before h in
    subst (λ (r : Result (List Definition) SelectionError). HasValuesOf (Err fault) r) (sym (b.2 ∙ ap (λ (ws : List (List ℕ)). values_after b.0 (argument_definitions ws)) parts))
    (refused_first b.0 fault (argument_definition word) (argument_definitions after) (g b.0 b.1))
