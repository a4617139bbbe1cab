pub mod AddLaws
pub mod ValueLaws
pub mod DataLaws
pub mod PlaceLaws
pub mod BegunLaws
pub mod PartsLaws
pub mod RefusalLaws
