use Rattle.kt_dbfile.proofs.Common.{IsIgnored, arith, cases_eq, eq-eqb, image_of, inl, inr, ne_eqb, probe_size, reserved, same_image, stored_size, subst₂, sym, ◌%◌, ◌∙◌, ◌≡◌, ◌≤◌}
use Rattle.sqlite_wal.specs.Format.{be32}
use Rattle.sqlite_wal.specs.Recovery as raw
use Rattle.sqlite_wal.specs.PageSize.{bytes_of, size_in_file, Names}
use Rattle.sqlite_wal.proofs.CleanLemmas.{both_clean}
use Rattle.sqlite_pool.proofs.ProbeLemmas.{reserved_word}
use Rattle.kt_dbfile.proofs.OpeningLemmas.{ok_is}
use Rattle.kt_dbfile.proofs.opening.page_size_without_checksums.Goals as goal

pub returns-clause-size : goal.returns-clause-size
returns-clause-size g c clean db held =
    let start = image_of g.D.Disk c.args.files.now in
    let first = c.probe_first_page.ensures in
    let early = both_clean _ _ _ _ first.log.clean first.db.clean clean in
    let found = c.in_ok-found.found in
    let ok = ok_is c.probe_page_size.result c.ok.result found c.ok.ensures.value c.in_ok-found.was in
    let ok_head = ok_is c.probe_first_page.result c.ok-2.result c.in_ok-head.head c.ok-2.ensures.value c.in_ok-head.was in
    let by_log : ¬ IsIgnored start.log → Names found (be32 start.log 8) = (rw ok at c.probe_page_size.ensures.by_log) early in
    let by_file : IsIgnored start.log → Names found (size_in_file start.db) = (rw ok at c.probe_page_size.ensures.by_file) early in
    let sized : stored_size held.0 ≡ bytes_of c.in_ok-size.size = probe_size start found by_log by_file db held c.in_ok-size.size c.in_ok-size.was in
    let size = held.0 in
    let few : reserved size ≤ 8 = grind arith in
    let stored = held.2.found in
    let page = reserved_word size _ _ stored (omega (arith, held.1.0)) held.2.ours.file.sound in
    let looked = same_image c.probe_page_size.ensures.log c.probe_page_size.ensures.db in
    let word = ((rw ok_head at c.probe_first_page.ensures.value) clean stored.stored page.0 (subst₂ (λ n i. raw.Recovers n i stored.stored) sized (sym looked) stored.found) page.1 (page.2 ∙ sized)).1 ∙ page.3 in
    elim (cases_eq (size % 16) 8) [
      | inl on ↦ let eight : reserved size ≡ 8 = rw (eq-eqb _ 8 on) in absurd (omega (arith, word, eight, c.if-head-eq-CHECKSUM_MARK.false))
      | inr off ↦ let none : reserved size ≡ 0 = rw (ne_eqb _ 8 off) in omega (arith, sized, none)
    ]
