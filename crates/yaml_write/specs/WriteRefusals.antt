-- What is refused, and by which cause.
use Rattle.yaml_base.specs.declared.error.Cause.{Cause}
use Rattle.yaml_base.specs.declared.error.Cause.TheVariants as cause
use Rattle.yaml_write.specs.declared.write_refusal.Refused.{Refused}
use Rattle.yaml_write.specs.declared.write_refusal.Refused.TheVariants as refused

-- that of what is refused
abbrev pub refused_cause : Refused → Cause
refused_cause refused.Memory = cause.Memory
refused_cause refused.Bytes = cause.BytesUnsupported
refused_cause refused.TagOnTag = cause.SerializeNestedEnum

-- the causes that lie in data: bytes, which nothing is written for, and a tag directly upon a tag
pub data IsOfData : Cause → Type 0 where
  has_bytes : IsOfData cause.BytesUnsupported
  has_nested_tags : IsOfData cause.SerializeNestedEnum
