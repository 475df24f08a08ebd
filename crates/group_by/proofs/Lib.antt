mod RisingTags
mod Wilds
mod PlainFilters
