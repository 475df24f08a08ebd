pub mod Images
pub mod ImageReads
pub mod ImageWrites
pub mod Laws
pub mod ImageTakes
pub mod ImageGifts
pub mod StoreImages
pub mod LargeLines
