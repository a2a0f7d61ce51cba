-- A commit, from what the writing of its bank says.
use Rattle.std.proofs.Common.{◌≡◌, ◌⊎◌, inl, inr, ℕ, ◌≤◌, Bool, Option, Some, None, List, ◌++◌, length, refl, sym, ap, ◌∙◌, subst}
use Rattle.dsc_outside.specs.declared.disk.Disk.{Ghosts}
use Rattle.dsc_outside.specs.Disk.{Each}
use Rattle.gate_log.specs.Kept.{IsKeptBy}
use Rattle.gate_log.specs.Log.{IsLogOf, LogTerm, capacity_in}
use Rattle.gate_log.specs.Text.{Gives, cells}
use Rattle.gate_log.proofs.Leading.{kept_stands}
use Rattle.meta_config.specs.Writing.{text_of_meta}
use Rattle.node_state.specs.declared.event.Event.{Event}
use Rattle.node_state.specs.declared.node.Node.{Node}
use Rattle.node_state.specs.Table.{after}
use Rattle.node_store.specs.Bank.{BankTerm, Grew, HasFormat, blobs_as, blobs_of_bank}
use Rattle.node_store.specs.Digests.{Blobs, HaveOneDigest, texts_of_node}
use Rattle.node_store.specs.Growing.{AllAmong, texts_of_event}
use Rattle.node_store.specs.Stands.{LeadsByDigests, LeadsIn, node_shape}
use Rattle.node_store.specs.Store.{AreAdded, BeginsWithFormat, IsByDigests, IsRewritten, IsTextOf, MustRewrite, NeedsFormat, StoreTerm, text_or}
use Rattle.node_store.proofs.AmongBlobs.{after_among}
use Rattle.node_store.proofs.Fronts.{text_none, text_some}
use Rattle.node_store.proofs.Lacking.{all_more}

-- the text after the event
pub text_is : (node : Node) (event : Event) (given : Option (List ℕ)) (held : List ℕ) → IsTextOf event given → held ≡ text_of_meta node.meta → text_or given held ≡ text_of_meta (after node event).meta
text_is node event (Some text) held is same = text_some node event (Some text) text is refl
text_is node event None held is same = text_none node event None held is refl same

-- the texts of the node after the event are there
pub grown_there : (old new : BankTerm) (node : Node) (event : Event) (grown : Option ℕ) → Grew old event grown new → AllAmong old.texts (texts_of_node node) → AllAmong new.texts (texts_of_node (after node event))
grown_there old new node event grown grew all =
    after_among new.texts node event (subst (λ (b : Blobs). AllAmong b (texts_of_node node)) (sym grew.more.1) (all_more old.texts grew.more.0 (texts_of_node node) all))
    (λ staged stage. subst (λ (e : Event). AllAmong new.texts (texts_of_event e)) stage grew.there)

-- each image of a bank of format 2 begins with a Format
begins : {D : Type 0} (d : Ghosts D) (disk : D) (log : LogTerm) (node : Node) (texts : Blobs) → IsKeptBy d disk node_shape (LeadsByDigests texts) log node → Each (d.images disk) BeginsWithFormat
begins d disk log node texts kept = λ c image.
    let s = kept_stands node_shape (LeadsByDigests texts) d disk log node kept c image in
    (s.stands.leads.rest, subst (λ (l : List (List ℕ)). Gives node_shape c l) s.stands.leads.is s.stands.gives)

module _ {D : Type 0} (d : Ghosts D) (before now : D) (old new : StoreTerm) (event : Event) (bank grown_bank written : BankTerm) (grown : Option ℕ) (node : Node) (grew : Grew bank event grown grown_bank) (log : bank.log ≡ old.log)
    (blobs : blobs_of_bank bank ≡ old.blobs) (same : node ≡ old.node) (is_log : new.log ≡ written.log) (is_blobs : new.blobs ≡ blobs_of_bank written) (is_node : new.node ≡ after node event) where
  held : grown_bank.log ≡ old.log
  held = grew.log ∙ log

  are_here : (added : List (List ℕ)) → AreAdded old.blobs old.node event added → AreAdded (blobs_of_bank bank) node event added
  are_here added are = subst (λ (b : Option Blobs). AreAdded b node event added) (sym blobs) (subst (λ (n : Node). AreAdded old.blobs n event added) (sym same) are)

  are_there : (added : List (List ℕ)) → AreAdded (blobs_of_bank bank) node event added → AreAdded old.blobs old.node event added
  are_there added are = subst (λ (n : Node). AreAdded old.blobs n event added) same (subst (λ (b : Option Blobs). AreAdded b node event added) blobs are)

  pub adds_done : ((b : BankTerm) → Grew b event grown grown_bank → (added bodies : List (List ℕ)) → AreAdded (blobs_of_bank b) node event added → length (cells added) ≤ capacity_in grown_bank.log → IsLogOf d before grown_bank.log bodies
      → IsLogOf d now written.log (bodies ++ added)) → (added bodies : List (List ℕ)) → AreAdded old.blobs old.node event added → length (cells added) ≤ capacity_in old.log → IsLogOf d before old.log bodies → IsLogOf d now new.log (bodies ++ added)
  adds_done adds added bodies are fits of =
      subst (λ (l : LogTerm). IsLogOf d now l (bodies ++ added)) (sym is_log)
      (adds bank grew added bodies (are_here added are) (subst (λ (l : LogTerm). length (cells added) ≤ capacity_in l) (sym held) fits) (subst (λ (l : LogTerm). IsLogOf d before l bodies) (sym held) of))

  pub rewrites_done : ((b : BankTerm) → Grew b event grown grown_bank → MustRewrite (blobs_of_bank b) grown_bank.log node event → IsRewritten d now grown_bank.log written.log (blobs_of_bank written) (after node event))
      → MustRewrite old.blobs old.log old.node event → IsRewritten d now old.log new.log new.blobs new.node
  rewrites_done rewrites must =
      let done = rewrites bank grew (λ added are fits. must added (are_there added are) (subst (λ (l : LogTerm). length (cells added) ≤ capacity_in l) held fits)) in
      subst (λ (l : LogTerm). IsRewritten d now l new.log new.blobs new.node) held
      (subst (λ (l : LogTerm). IsRewritten d now grown_bank.log l new.blobs new.node) (sym is_log)
      (subst (λ (b : Option Blobs). IsRewritten d now grown_bank.log written.log b new.node) (sym is_blobs)
      (subst (λ (n : Node). IsRewritten d now grown_bank.log written.log (blobs_of_bank written) n) (sym is_node) done)))

  needs_here : NeedsFormat old.blobs old.log old.node event → NeedsFormat (blobs_of_bank bank) grown_bank.log node event
  needs_here needs =
      subst (λ (l : LogTerm). NeedsFormat (blobs_of_bank bank) l node event) (sym held)
      (subst (λ (b : Option Blobs). NeedsFormat b old.log node event) (sym blobs) (subst (λ (n : Node). NeedsFormat old.blobs old.log n event) (sym same) needs))

  pub format_done : ((b : BankTerm) → Grew b event grown grown_bank → NeedsFormat (blobs_of_bank b) grown_bank.log node event → HasFormat written (after node event)) → IsKeptBy d now node_shape (LeadsIn (blobs_of_bank written)) written.log (after node event)
      → NeedsFormat old.blobs old.log old.node event → IsByDigests d now new ⊎ HaveOneDigest (texts_of_node new.node)
  format_done format kept needs = by (format bank grew (needs_here needs))
    where
      by : HasFormat written (after node event) → IsByDigests d now new ⊎ HaveOneDigest (texts_of_node new.node)
      by (inl second) =
          let some : blobs_of_bank written ≡ Some written.texts = ap (λ (b : Bool). blobs_as b written.texts) second in
          inl (record {
            blobs = written.texts;
            is = is_blobs ∙ some;
            images = begins d now written.log (after node event) written.texts (subst (λ (b : Option Blobs). IsKeptBy d now node_shape (LeadsIn b) written.log (after node event)) some kept);
          })
      by (inr pair) = inr (subst (λ (n : Node). HaveOneDigest (texts_of_node n)) (sym is_node) pair)
