pub mod CrcLaws
