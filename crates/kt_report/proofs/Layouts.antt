-- Reports that end early.
use Rattle.std.proofs.Common.{Option, true, ◌≡◌, ℕ, List, [], ◌∷◌, ◌++◌, ap, ◌∙◌, sym, append-nil, append_assoc}
use Rattle.kt_report.proofs.Common.{Emits, shows_as, shows_more, Layout, bytes_up_to}
use Rattle.kt_base.specs.declared.entry.Entry.{Entry}

module _ (layout : Layout) where
  -- A report that ends early before the end of its entries ends early before the next read.
  pub cut_later : (shown rest : List Entry) {was now : Option (List ℕ)} → Emits was now true (layout.first shown) → Emits was now true (bytes_up_to layout shown rest)
  cut_later shown [] s = shows_more layout.last s
  cut_later shown (e ∷ rest) s = shows_more (layout.next shown e) s

  -- The text of some entries is a prefix of the text of these entries and others.
  pub record Extends : Type 0 where
    pub more : List Entry → Entry → List Entry → List ℕ
    pub is : (shown : List Entry) (e : Entry) (rest : List Entry) → layout.first (shown ++ e ∷ rest) ≡ layout.first shown ++ layout.next shown e ++ more shown e rest

  -- A report that ends early before the next read ends early before its end.
  pub cut_whole : Extends → (shown rest : List Entry) {was now : Option (List ℕ)} → Emits was now true (bytes_up_to layout shown rest) → Emits was now true (bytes_up_to layout (shown ++ rest) [])
  cut_whole x shown [] s = shows_as (ap (λ (es : List Entry). layout.first es ++ layout.last) (sym (append-nil shown))) s
  cut_whole x shown (e ∷ rest) s =
      shows_as (sym (append_assoc (layout.first shown ++ layout.next shown e) (x.more shown e rest) layout.last) ∙ ap (λ (l : List ℕ). l ++ layout.last) (sym (x.is shown e rest)))
      (shows_more (x.more shown e rest ++ layout.last) s)
