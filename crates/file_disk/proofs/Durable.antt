-- What a file's sync leaves to be synced.
use Rattle.std.proofs.Common.{◌≡◌, ℕ, Bool, true, false, cond, List, inl, inr, refl, ap, ◌∙◌}
use Rattle.std.specs.Prelude.{◌⊎◌, ◌==◌, Ok, ⊤}
use Rattle.std.specs.List.{list_any}
use Rattle.file_disk.specs.Deeds.{Deed, syncs_data, syncs_folder}
use Rattle.file_disk.specs.Courses.{with_deed, IsAbsent, is_unsynced, Syncs}
use Rattle.file_disk.proofs.Unsynced.{unsynced-with}

entry_synced : (b : Bool) (file : ℕ) (deeds : List Deed) → is_unsynced file deeds ≡ b → is_unsynced file (cond b (with_deed deeds (syncs_folder true)) deeds) ≡ false
entry_synced true file deeds is = ap (list_any (λ made. made == file)) (unsynced-with deeds (syncs_folder true))
entry_synced false file deeds is = is

-- the place of a file that was synced is durable
pub unsynced-Syncs : (file : ℕ) (done : ⊤) (old new : List Deed) → Syncs file (Ok done) old new → IsAbsent file old new ⊎ (is_unsynced file new ≡ false)
unsynced-Syncs file done old new (inl absent) = inl absent.0
unsynced-Syncs file done old new (inr synced) =
    let entry = cond (is_unsynced file synced.0) (with_deed synced.0 (syncs_folder true)) synced.0 in
    inr (ap (is_unsynced file) synced.2 ∙ ap (list_any (λ made. made == file)) (unsynced-with entry (syncs_data file true)) ∙ entry_synced (is_unsynced file synced.0) file synced.0 refl)
