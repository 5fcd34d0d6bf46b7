use Rattle.std.proofs.Common.{◌≡◌, ◌∙◌, ℕ, Bool, List, [], Option, ap, refl, sym, subst, codes, unwrap_or}
use Rattle.kt_metadata.proofs.Common.{fun_ext, chars, value_of, value_is, parsed_value, elements_in, truth_in, size_or_default, user_in, timeout_or_default, meta_of, texts_of}
use Rattle.kt_metadata.specs.declared.meta.Meta.{Meta}
use Rattle.kt_metadata.specs.declared.value.RequiredUser.{RequiredUser}
use Rattle.kt_metadata.proofs.Timeouts.{IsTimeout, timeout-within}
use Rattle.kt_metadata.proofs.props.Props.effective.Goals as goal

meta-is : (texts : List ℕ → Option (List ℕ)) {a b f h i : List (List ℕ)} {d : List ℕ} {t x : Bool} {k m s : ℕ} {u : RequiredUser}
    → a ≡ elements_in (parsed_value texts (codes "allowed_architectures")) → b ≡ elements_in (parsed_value texts (codes "allowed_platforms")) → d ≡ unwrap_or (texts (codes "description")) []
    → t ≡ truth_in (parsed_value texts (codes "has_cleanup")) → x ≡ truth_in (parsed_value texts (codes "is_exclusive")) → f ≡ elements_in (parsed_value texts (codes "required_configs"))
    → k ≡ size_or_default (parsed_value texts (codes "required_disk_space")) → h ≡ elements_in (parsed_value texts (codes "required_files")) → m ≡ size_or_default (parsed_value texts (codes "required_memory"))
    → i ≡ elements_in (parsed_value texts (codes "required_programs")) → u ≡ user_in (parsed_value texts (codes "required_user")) → s ≡ timeout_or_default (parsed_value texts (codes "timeout"))
    → ◌≡◌ {A = Meta} (record {
      allowed_architectures = a;
      allowed_platforms = b;
      description = d;
      has_cleanup = t;
      is_exclusive = x;
      required_configs = f;
      required_disk_space = k;
      required_files = h;
      required_memory = m;
      required_programs = i;
      required_user = u;
      timeout = s;
    }) (meta_of texts)
meta-is texts a b d t x f k h m i u s = rw (a, b, d, t, x, f, k, h, m, i, u, s) refl

pub returns-clause-value : goal.returns-clause-value
unfolding chars
returns-clause-value c =
    meta-is (texts_of c.args.self.now) c.in_ok-copy_list.ensures c.in_ok-copy_list-2.ensures c.in_ok-copy_text.ensures c.truth_value.ensures c.truth_value-2.ensures c.in_ok-copy_list-3.ensures c.size_value.ensures
    c.in_ok-copy_list-4.ensures c.size_value-2.ensures c.in_ok-copy_list-5.ensures c.user_value.ensures c.timeout.ensures

pub returns-clause-defined : goal.returns-clause-defined
unfolding chars
returns-clause-defined c = λ definitions last.
    meta-is (texts_of c.args.self.now) c.in_ok-copy_list.ensures c.in_ok-copy_list-2.ensures c.in_ok-copy_text.ensures c.truth_value.ensures c.truth_value-2.ensures c.in_ok-copy_list-3.ensures c.size_value.ensures
    c.in_ok-copy_list-4.ensures c.size_value-2.ensures c.in_ok-copy_list-5.ensures c.user_value.ensures c.timeout.ensures
    ∙ ap meta_of (fun_ext (λ (name : List ℕ). ap (value_of name) last ∙ value_is name definitions))

pub returns-clause-timeout : goal.returns-clause-timeout
unfolding chars
returns-clause-timeout c = subst IsTimeout (sym c.timeout.ensures) (timeout-within (texts_of c.args.self.now))
