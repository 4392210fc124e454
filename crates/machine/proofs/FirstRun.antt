-- The first run of the example above genesis meets the clauses.
use Rattle.std.proofs.Common.{◌≡◌, ⊎_elim, ℕ, Bool, List, [], ◌∷◌, length, cond, Some, None, Ok, refl, sym, ap, subst, ◌∙◌, arith}
use Rattle.std.specs.FinMap.{get, empty, get-insert, nat_cmp-IsAntisymmetric, slice_cmp-IsAntisymmetric}
use Rattle.std.specs.Ordering.{nat_cmp}
use Rattle.std.specs.Cmp.Lexicographic.{slice_cmp, nat_list_cmp_total}
use Rattle.disk_model.specs.Disk.{Image}
use Rattle.base_types.proofs.KeyOrders.{hash_ties, tied_same}
use Rattle.block_codec.proofs.BlockLaws.{length-header}
use Rattle.block_store.specs.Headers.{headers_text}
use Rattle.block_store.proofs.PayloadLaws.{length-headers}
use Rattle.command_text.specs.declared.line.Line.TheVariants as line
use Rattle.store_state.specs.State.{StoreState, state_of, first_rules}
use Rattle.store_state.specs.Settled.{Settled}
use Rattle.store_state.specs.SmallStores.{body_payload, store_of_header}
use Rattle.store_state.specs.SmallImages.{HasLogs, StandsSettled, image_has_logs, settled_as, payload_at}
use Rattle.machine.specs.State.{State}
use Rattle.machine.specs.Steps.{Step}
use Rattle.machine.specs.Clauses.{now_at}
use Rattle.machine.specs.CutRuns.{no_bytes}
use Rattle.machine.specs.SmallStates.{genesis_store}
use Rattle.machine.proofs.GenesisSteps.{begins_at_genesis}
use Rattle.machine.proofs.ImportSteps.{import_line}
use Rattle.machine.specs.BlockRuns.{BlockFile, name, files, block_hash, block_store, header_image, block_image, LeftByFirst, import_did, first_run, setting_of}
use Rattle.machine.proofs.Empty.{at_empty, empty_settled}
use Rattle.machine.proofs.StoreLaws.{StoreLaws}

-- ---- the images

module _ (laws : StoreLaws) (limit cache : ℕ) (file : BlockFile limit cache) where
  header_fits_record : length (headers_text (file.first.block.header ∷ [])) ≡ 80
  header_fits_record = length-headers (file.first.block.header ∷ []) (length-header file.first.block.header file.first.fits.header.prev file.first.fits.header.root, tt)

  header_logs : HasLogs (header_image limit cache file) (headers_text (file.first.block.header ∷ []) ∷ []) [] []
  header_logs = image_has_logs (headers_text (file.first.block.header ∷ []) ∷ []) [] [] (omega (arith, header_fits_record), tt) tt tt

  block_logs : HasLogs (block_image limit cache file) (headers_text (file.first.block.header ∷ []) ∷ []) (body_payload limit first_rules file.first ∷ []) (payload_at (block_hash limit cache file) file.first.rows ∷ [])
  block_logs =
      image_has_logs (headers_text (file.first.block.header ∷ []) ∷ []) (body_payload limit first_rules file.first ∷ []) (payload_at (block_hash limit cache file) file.first.rows ∷ [])
      (omega (arith, header_fits_record), tt) (file.body_fits, tt) (file.batch_fits, tt)

  -- the store of the header alone
  abbrev pub header_store : StoreState
  header_store = store_of_header first_rules file.first.block.header

  pub header_stands : StandsSettled limit first_rules (header_image limit cache file) header_store
  header_stands = laws.header limit first_rules file.first.block.header file.first.fits.header file.first.child (header_image limit cache file) header_logs

  pub block_stands : StandsSettled limit first_rules (block_image limit cache file) (block_store limit cache file)
  block_stands = laws.block limit first_rules file.first (block_image limit cache file) block_logs

  pub empty_stands : state_of limit first_rules no_bytes ≡ Some (genesis_store first_rules)
  empty_stands = at_empty limit first_rules no_bytes (λ file. refl)

  pub block_image_settled : Settled limit first_rules (block_image limit cache file)
  block_image_settled = settled_as limit first_rules (block_image limit cache file) (block_store limit cache file) block_stands

  pub all_settled : (t : ℕ) (c : Image) → LeftByFirst limit cache file t c → Settled limit first_rules c
  all_settled t c l = ⊎_elim
      (λ is. subst (Settled limit first_rules) (sym is) block_image_settled)
      (λ early. ⊎_elim
      (λ is. subst (Settled limit first_rules) (sym is) (empty_settled limit first_rules no_bytes (λ file. refl)))
      (λ is. subst (Settled limit first_rules) (sym is) (settled_as limit first_rules (header_image limit cache file) header_store header_stands))
      early.1)
      l

  -- ---- the course

  held : get (files limit cache file) name ≡ Some file.bytes
  held =
      get-insert nat_list_cmp_total empty name file.bytes name
      ∙ ap (λ (b : Bool). cond b (Some file.bytes) (get (empty {X = List ℕ} {R = slice_cmp nat_cmp}) name)) (tied_same (slice_cmp nat_cmp) (λ xs. hash_ties (record { bytes = xs })) (slice_cmp-IsAntisymmetric nat_cmp-IsAntisymmetric) name)

  pub import_step : Step (setting_of limit cache) (now_at (first_run limit cache file) (genesis_store first_rules)) (Ok (line.Import name None)) (import_did limit cache file)
  import_step =
      subst (λ (s : State). Step (setting_of limit cache) (record { state = s; files = files limit cache file }) (Ok (line.Import name None)) (import_did limit cache file)) (sym (begins_at_genesis first_rules))
      (import_line (setting_of limit cache) file.first (files limit cache file) name file.bytes held file.short file.one_frame)
