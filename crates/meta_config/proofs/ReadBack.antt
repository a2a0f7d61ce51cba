-- Meta-configurations that were read are read back from their text.
use Rattle.std.proofs.Common.{◌≡◌, inl, inr, ℕ, ◌≤◌, true, false, nat_le, List, length, encode_utf8_all, refl, sym, ap, subst, ◌∙◌, arith}
use lib.Utf8.{encode}
use Rattle.mof_codec.proofs.OneRefusal.{reads_once}
use Rattle.meta_config.specs.declared.meta.Meta.{Meta}
use Rattle.meta_config.specs.Making.{meta_of, usual}
use Rattle.meta_config.specs.Parts.{IsMeta}
use Rattle.meta_config.specs.Refusals.{Means}
use Rattle.meta_config.specs.Writing.{instances_of, text_of_meta}
use Rattle.meta_config.proofs.ReadMetas.{read_is_well_formed}
use Rattle.meta_config.proofs.WellFormed.{IsWellFormed}
use Rattle.meta_config.proofs.WrittenAccepted.{written_accepted}
use Rattle.meta_config.proofs.WrittenMetas.{written_declare}
use Rattle.meta_config.proofs.WrittenTexts.{at_most, written_reads}
use Rattle.meta_config.specs.declared.limits.TheConstants.{MAX_META_TEXT}

-- ---- the usual meta-configuration

usual_is_short : nat_le (length (text_of_meta usual)) MAX_META_TEXT ≡ true
unfolding encode
usual_is_short = refl

usual_is_well_formed : IsWellFormed usual
usual_is_well_formed = record {
  mode_mins = omega arith;
  refresh_mins = omega arith;
  managers = (refl, refl, refl);
  names = tt;
  names_once = refl;
  few_names = refl;
  partials = tt;
  few_partials = refl;
  apart = tt;
  known = tt;
  short = usual_is_short;
}

-- ---- the laws

pub is_well_formed : (meta : Meta) → IsMeta meta → IsWellFormed meta
is_well_formed meta (inl read) = read_is_well_formed read.0 meta read.1
is_well_formed meta (inr is) = subst IsWellFormed (sym is) usual_is_well_formed

pub reads_back : (meta : Meta) → IsMeta meta → Means (text_of_meta meta) meta
reads_back meta is =
    let w = is_well_formed meta is in
    record {
      instances = instances_of meta;
      read = written_reads meta w;
      accepted = written_accepted meta w;
      made = sym (written_declare meta w);
    }

pub text_fits : (meta : Meta) → IsMeta meta → length (text_of_meta meta) ≤ MAX_META_TEXT
text_fits meta is = at_most (length (text_of_meta meta)) MAX_META_TEXT (is_well_formed meta is).short

pub means_one : (bytes : List ℕ) (one other : Meta) → Means bytes one → Means bytes other → one ≡ other
means_one bytes one other a b = a.made ∙ ap meta_of (reads_once bytes a.instances b.instances a.read b.read) ∙ sym b.made

pub texts_tell_apart : (one other : Meta) → IsMeta one → IsMeta other → text_of_meta one ≡ text_of_meta other → one ≡ other
texts_tell_apart one other a b e = means_one (text_of_meta other) one other (subst (λ bytes. Means bytes one) e (reads_back one a)) (reads_back other b)
