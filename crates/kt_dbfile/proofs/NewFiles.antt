-- The first page of a new file alone is an empty database.
use Rattle.kt_dbfile.proofs.Common.{AreWhole, HoldsEmpty, Image, IsIgnored, List, None, PageMap, Some, [], adopts_of, all_trees, ap, arith, cases_eq, file_trees, in_use, inl, inr, length, ne_eqb, only_page, refl, sym, take, true, version_in, ℕ, ◌∙◌, ◌≡◌}
use Rattle.sqlite_format.specs.declared.kind.Tree.TheVariants.{Table}
use Rattle.sqlite_format.specs.Page.{cell_count, content_start}
use Rattle.sqlite_format.proofs.PageLemmas.{empty_page}
use Rattle.sqlite_pool.specs.Header.{first_page}
use Rattle.sqlite_pool.specs.Opening.{IsFirstPage}
use Rattle.sqlite_pool.specs.Stored.{Recovers, sealed, trimmed}
use Rattle.sqlite_pool.proofs.OpenLemmas.{first_new}
use Rattle.sqlite_store.specs.Db.{trees_in}
use Rattle.sqlite_store.specs.Listed.{catalog_rows}
use Rattle.sqlite_store.proofs.BuildLemmas.{new_is_empty}
use Rattle.sqlite_store.proofs.ListingLemmas.{named_tree, past_version}
use Rattle.sqlite.proofs.ListingLemmas.{empty_is_sound}
use Rattle.sqlite_wal.proofs.CreateLemmas.{pages_of_one}
use mathlib.Core.Path.{fun_ext}

abbrev page : List ℕ
page = first_page 1024

page_is_first : IsFirstPage page (take 100 page)
unfolding first_page cell_count content_start
page_is_first =
    let leaf = empty_page (record { tree = Table; leaf = true }) page 100 (omega arith) (omega arith) refl refl refl refl refl in
    record {
      exact = refl;
      begins = refl;
      valid = (record { magic = refl; size = refl; versions = inr refl }, record { fractions = refl; format = inl refl; encoding = inl refl; no_vacuum = (refl, refl); counted = refl });
      pages = refl;
      first = refl;
      free = refl;
      leaf = leaf.0;
      empty = leaf.1;
    }

-- the only page of a file that consists of this page
only : (n : ℕ) (bytes : List ℕ) → only_page page n ≡ Some bytes → page ≡ bytes
only n bytes is = elim (cases_eq n 1) [
  | inl one ↦ let e : Some page ≡ Some bytes = rw one at is in cc
  | inr other ↦ let none : only_page page n ≡ None = rw (ne_eqb n 1 other) refl in absurd (cc)
]

only_whole : AreWhole 1024 (only_page page)
unfolding first_page
only_whole = record { first = refl; sized = λ n bytes is. sym (ap length (only n bytes is)) }

without_sum : page ≡ sealed (take 1024 page)
unfolding first_page sealed
without_sum = refl

shown : (n : ℕ) → trimmed 1024 (only_page page) n ≡ only_page page n
unfolding first_page trimmed
shown n = elim (cases_eq n 1) [ inl one ↦ rw one refl | inr other ↦ rw (ne_eqb n 1 other) refl ]

recovers : (log : List ℕ) → IsIgnored log → Recovers 1024 (record { log = log; db = page }) (only_page page)
unfolding first_page
recovers log ignored = record {
  stored = only_page page;
  found = record { frames = 0; replays = inl (ignored, refl); present = omega arith; gives = pages_of_one page log (omega arith) };
  whole = only_whole;
  sealed = λ n bytes is. let same = only n bytes is in rw (← same) without_sum;
  shows = fun_ext shown;
  present = omega arith;
}

pub holds_empty : (log : List ℕ) → IsIgnored log → HoldsEmpty (record { log = log; db = page })
unfolding first_page trees_in
holds_empty log ignored =
    let image : Image = record { log = log; db = page } in
    let pages : PageMap = only_page page in
    let empty = new_is_empty 1024 pages only_whole (first_new page (take 100 page) 1024 refl (omega arith) (omega arith) page_is_first) in
    let trees = file_trees 1024 [] pages in
    let unlisted = catalog_rows 1024 [] (in_use 1024 pages) in (
      trees,
      (
        1024,
        (omega arith, omega arith, refl, refl),
        record {
          pages = pages;
          wanted = [];
          schema = _;
          found = adopts_of 1024 image pages (recovers log ignored);
          ours = record { file = empty.0; numbered = λ _. record { listed = empty.1; spaced = refl; ordered = refl } };
          reads = refl;
          sound = empty_is_sound trees unlisted;
        },
      ),
      (λ tree low. past_version tree low (all_trees 1024 [] (in_use 1024 pages)) (version_in pages) ∙ named_tree tree low 1024 [] (in_use 1024 pages), unlisted),
    )
